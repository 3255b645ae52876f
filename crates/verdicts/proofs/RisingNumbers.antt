-- Rising numbers: the next ones rise too, and two rising lists of the same numbers are the same. Assumes nothing.
use Rattle.std.proofs.Common.{◌≡◌, ℕ, suc, ◌<◌, List, [], ◌∷◌, map, sym, refl, ap, ap₂, inl, inr, arith}
use Rattle.verdicts.specs.Windows.{Among, Rising}

pub among_suc : (j : ℕ) (js : List ℕ) → Among j (map suc js) → (i : ℕ) × (j ≡ suc i) × Among i js
among_suc j (i ∷ is) (inl e) = (i, e, inl refl)
among_suc j (i ∷ is) (inr m) = grind (arith, among_suc j is m)
among_suc j [] m = absurd m

pub suc_among : (i : ℕ) (js : List ℕ) → Among i js → Among (suc i) (map suc js)
suc_among i (j ∷ js) (inl e) = inl (ap suc e)
suc_among i (j ∷ js) (inr m) = inr (suc_among i js m)
suc_among i [] m = absurd m

pub rising_suc : (js : List ℕ) → Rising js → Rising (map suc js)
rising_suc [] h = tt
rising_suc (j ∷ js) h = (λ k m. let found = among_suc k js m in omega (arith, found.1, h.0 found.0 found.2), rising_suc js h.1)

-- the first number of each list is among the other's, so neither is below the other
same_first : (j k : ℕ) (js ks : List ℕ) → Rising (j ∷ js) → Rising (k ∷ ks) → Among j (k ∷ ks) → Among k (j ∷ js) → j ≡ k
same_first j k js ks rj rk h e = grind arith

among_rest : (i j k : ℕ) (ks : List ℕ) → j ≡ k → j < i → Among i (k ∷ ks) → Among i ks
among_rest i j k ks same below h = grind arith

pub same_rising : (js ks : List ℕ) → Rising js → Rising ks → ((j : ℕ) → Among j js → Among j ks) → ((j : ℕ) → Among j ks → Among j js) → js ≡ ks
same_rising [] [] rj rk into back = refl
same_rising [] (k ∷ ks) rj rk into back = absurd (back k (inl refl))
same_rising (j ∷ js) [] rj rk into back = absurd (into j (inl refl))
same_rising (j ∷ js) (k ∷ ks) rj rk into back =
    let first = same_first j k js ks rj rk (into j (inl refl)) (back k (inl refl)) in
    ap₂ ◌∷◌ first (same_rising js ks rj.1 rk.1
    (λ i m. among_rest i j k ks first (rj.0 i m) (into i (inr m)))
    (λ i m. among_rest i k j js (sym first) (rk.0 i m) (back i (inr m))))
