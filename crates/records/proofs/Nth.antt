-- A list from an index on, by what stands there. Assumes nothing.
use Rattle.std.proofs.Common.{◌≡◌, ℕ, zero, suc, ◌+◌, List, [], ◌∷◌, drop, Some, None, sym, refl, ap, ◌∙◌, add-one, arith}
use Rattle.std.specs.List.{slice_get}

pub drop_some : {X : Type 0} (xs : List X) (i : ℕ) (x : X) → Some x ≡ slice_get xs i → drop i xs ≡ x ∷ drop (i + 1) xs
drop_some xs i x e = from xs i e ∙ ap (λ n. x ∷ drop n xs) (sym (add-one i))
  where
    from : (ys : List _) (k : ℕ) → Some x ≡ slice_get ys k → drop k ys ≡ x ∷ drop (suc k) ys
    from [] k e = absurd (let z : ◌≡◌ {A = ℕ} 0 1 = cc in omega arith)
    from (y ∷ ys) zero e = let same : x ≡ y = cc in ap (λ w. w ∷ ys) (sym same)
    from (y ∷ ys) (suc k) e = from ys k e

pub drop_none : {X : Type 0} (xs : List X) (i : ℕ) → None ≡ slice_get xs i → drop i xs ≡ []
drop_none [] zero e = refl
drop_none [] (suc i) e = refl
drop_none (x ∷ xs) zero e = absurd (let z : ◌≡◌ {A = ℕ} 0 1 = cc in omega arith)
drop_none (x ∷ xs) (suc i) e = drop_none xs i e
