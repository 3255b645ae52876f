-- A window is whole where its last moment has a state, and so always on a closed run. Assumes nothing.
use Rattle.std.proofs.Common.{◌≡◌, ℕ, zero, suc, ◌-◌, ◌<◌, Bool, true, ◌||◌, List, [], ◌∷◌, length, sym, ap, ◌∙◌, inl, inr, arith}
use Rattle.std.proofs.lemmas.Bool.{and_from, cases_Bool, false≢true, or_left, or_right}
use Rattle.runs.specs.Runs.{State, endures}
use Rattle.runs.specs.declared.shape.Mark.{Mark}
use Rattle.verdicts.proofs.OwnedMoments.{Owns, belongs_owns, owns_belongs, not_within}
use Rattle.verdicts.specs.Laws.{WholeByMoment}
use Rattle.verdicts.specs.Tours.{tour_at, within}
use Rattle.verdicts.proofs.VisitedStates.{whole_from}

whole_toured : (begun ended told : Bool) → tour_at begun ended (λ x. x) true told ≡ (ended || told)
whole_toured begun ended told = grind arith

whole_owned : (mark : Mark) (a b : ℕ) (run : List State) → whole_from mark a b run ≡ true → (j : ℕ) × Owns mark b run j
whole_owned mark a b [] h = absurd (false≢true h)
whole_owned mark a b (s ∷ r) h = elim (cases_Bool (within mark b s r)) [
  | inl e ↦ (0, e)
  | inr e ↦ let rest = whole_owned mark (a - s.stay) (b - s.stay) r (sym (ap (λ x. x || whole_from mark (a - s.stay) (b - s.stay) r) e) ∙ (sym (whole_toured (within mark a s r) (within mark b s r) _) ∙ h)) in
      (suc rest.0, (not_within mark b s r e, rest.1))
]

owned_whole : (mark : Mark) (a b : ℕ) (run : List State) (j : ℕ) → Owns mark b run j → whole_from mark a b run ≡ true
owned_whole mark a b [] j o = absurd o
owned_whole mark a b (s ∷ r) zero o = grind (arith, whole_toured, or_left)
owned_whole mark a b (s ∷ r) (suc j) o = grind (arith, whole_toured, or_right, owned_whole mark (a - s.stay) (b - s.stay) r j o.1)

pub whole_by_moment : WholeByMoment
whole_by_moment mark w run = (
  λ h. let found = whole_owned mark w.first w.last run h in (found.0, owns_belongs mark w.last run found.0 found.1),
  λ found. owned_whole mark w.first w.last run found.0 (belongs_owns mark w.last run found.0 found.1),
)

-- on a closed run every window is whole
pub closed_whole : (mark : Mark) → endures mark ≡ true → (a b : ℕ) (run : List State) → 0 < length run → whole_from mark a b run ≡ true
closed_whole mark closed a b [] some = absurd (omega arith)
closed_whole mark closed a b (s ∷ []) some = grind (arith, whole_toured, or_left, or_right, and_from)
closed_whole mark closed a b (s ∷ n ∷ r) some = grind (arith, whole_toured, or_right, closed_whole mark closed (a - s.stay) (b - s.stay) (n ∷ r) (omega arith))
