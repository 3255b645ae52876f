-- To which state a moment belongs, told state by state from the first one on. Assumes nothing.
use Rattle.std.proofs.Common.{◌≡◌, ℕ, zero, suc, ◌+◌, ◌-◌, ◌<◌, ◌≤◌, true, false, leb, List, [], ◌∷◌, length, take, drop, inl, inr, arith}
use Rattle.std.proofs.lemmas.List.{length-drop}
use Rattle.std.proofs.lemmas.List.Sums.{sum_by-cons}
use Rattle.std.proofs.lemmas.Bool.{and_from, and_parts, le-leb, leb-false, leb-true, or_cases, or_left, or_parts, or_right}
use Rattle.runs.specs.Moments.{Belongs}
use Rattle.runs.specs.Runs.{State, endures, ticks}
use Rattle.runs.specs.declared.shape.Mark.{Mark}
use Rattle.verdicts.specs.Laws.{CountedFrom}
use Rattle.verdicts.specs.Tours.{is_last, within}

-- a later moment within a state has the earlier ones there or before
pub within_order : (mark : Mark) (a b : ℕ) (s : State) (r : List State) → a ≤ b → within mark b s r ≡ true → within mark a s r ≡ true
within_order mark a b s r h e = grind arith

pub not_within : (mark : Mark) (t : ℕ) (s : State) (r : List State) → within mark t s r ≡ false → s.stay < t
not_within mark t s r h = grind (arith, leb-false, or_parts)

abbrev pub Owns : Mark → ℕ → List State → ℕ → Type 0
Owns mark t [] j = ⊥
Owns mark t (s ∷ r) zero = within mark t s r ≡ true
Owns mark t (s ∷ r) (suc j) = (s.stay < t) × Owns mark (t - s.stay) r j

first_end : (s : State) (r : List State) → ticks (take (suc 0 - 0) (drop 0 (s ∷ r))) ≡ s.stay
first_end s r = omega arith

later_end : (s : State) (r : List State) (k : ℕ) → ticks (take (suc (suc k) - 0) (drop 0 (s ∷ r))) ≡ s.stay + ticks (take (suc k - 0) (drop 0 r))
later_end s r k = let outer : suc (suc k) - 0 ≡ suc (suc k) = omega arith in let inner : suc k - 0 ≡ suc k = omega arith in
    rw (outer, inner) (sum_by-cons (λ (x : State). x.stay) s (take (suc k) r))

last_from_length : (r : List State) → 1 ≡ length r + 1 → is_last r ≡ true
last_from_length r h = grind arith

length_from_last : (r : List State) → is_last r ≡ true → length r ≡ 0
length_from_last r h = grind arith

pub belongs_owns : (mark : Mark) (t : ℕ) (run : List State) (j : ℕ) → Belongs mark run 0 t j → Owns mark t run j
belongs_owns mark t [] j b = absurd (omega (arith, b.there))
belongs_owns mark t (s ∷ r) zero b = grind (arith, or_left, le-leb, first_end, or_right, and_from, last_from_length)
belongs_owns mark t (s ∷ r) (suc j) b =
    let past : s.stay < t = omega (arith, b.least 0 (omega arith) (omega arith), first_end s r) in (
      past,
      belongs_owns mark (t - s.stay) r j (record {
        from = omega arith;
        there = omega (arith, b.there);
        reached = elim b.reached [ inl h ↦ inl (omega (arith, later_end s r j)) | inr h ↦ inr (h.0, omega (arith, h.1)) ];
        least = λ k _ below. omega (arith, b.least (suc k) (omega arith) (omega arith), later_end s r k);
      }),
    )

pub owns_belongs : (mark : Mark) (t : ℕ) (run : List State) (j : ℕ) → Owns mark t run j → Belongs mark run 0 t j
owns_belongs mark t [] j o = absurd o
owns_belongs mark t (s ∷ r) zero o = record {
  from = omega arith;
  there = omega arith;
  reached = elim (or_cases (leb t s.stay) _ o) [
    | inl h ↦ inl (omega (arith, leb-true t s.stay h, first_end s r))
    | inr h ↦ let last = and_parts (endures mark) (is_last r) h in inr (last.0, omega (arith, length_from_last r last.1))
  ];
  least = λ k _ below. absurd (omega arith);
}
owns_belongs mark t (s ∷ r) (suc j) o =
    let b = owns_belongs mark (t - s.stay) r j o.1 in
    record {
      from = omega arith;
      there = omega (arith, b.there);
      reached = elim b.reached [ inl h ↦ inl (omega (arith, o.0, later_end s r j)) | inr h ↦ inr (h.0, omega (arith, h.1)) ];
      least = λ k _ below. past b k below;
    }
  where
    past : Belongs mark r 0 (t - s.stay) j → (k : ℕ) → k < suc j → ticks (take (suc k - 0) (drop 0 (s ∷ r))) < t
    past b zero below = omega (arith, o.0, first_end s r)
    past b (suc k) below = omega (arith, o.0, b.least k (omega arith) (omega arith), later_end s r k)

counted_end : (run : List State) (i k : ℕ) → ticks (take (suc (i + k) - i) (drop i run)) ≡ ticks (take (suc k - 0) (drop 0 (drop i run)))
counted_end run i k = grind arith

counted_here : (mark : Mark) (run : List State) (i t j : ℕ) → Belongs mark run i t (i + j) → Belongs mark (drop i run) 0 t j
counted_here mark run i t j b = record {
  from = omega arith;
  there = omega (arith, b.there, length-drop i run);
  reached = elim b.reached [
    | inl h ↦ inl (omega (arith, counted_end run i j))
    | inr h ↦ inr (h.0, omega (arith, h.1, length-drop i run))
  ];
  least = λ k _ below. omega (arith, b.least (i + k) (omega arith) (omega arith), counted_end run i k);
}

counted_there : (mark : Mark) (run : List State) (i t j : ℕ) → Belongs mark (drop i run) 0 t j → Belongs mark run i t (i + j)
counted_there mark run i t j b = record {
  from = omega arith;
  there = omega (arith, b.there, length-drop i run);
  reached = elim b.reached [
    | inl h ↦ inl (omega (arith, counted_end run i j))
    | inr h ↦ inr (h.0, omega (arith, b.there, h.1, length-drop i run))
  ];
  least = λ k low below. past k (k - i) low below (omega arith);
}
  where
    past : (k n : ℕ) → i ≤ k → k < i + j → k ≡ i + n → ticks (take (suc k - i) (drop i run)) < t
    past k n low below e = rw e (omega (arith, b.least n (omega arith) (omega arith), counted_end run i n))

pub counted_from : CountedFrom
counted_from mark run i t j = (counted_here mark run i t j, counted_there mark run i t j)
