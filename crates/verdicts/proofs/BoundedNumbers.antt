-- A known number is within its bound. Assumes nothing.
use Rattle.std.proofs.Common.{◌≡◌, ℕ, zero, suc, ◌+◌, ◌-◌, ◌*◌, ◌≤◌, Bool, true, false, cond, List, [], ◌∷◌, length, ℤ, ◌+ℤ◌, ◌*ℤ◌, neg_ℤ, nat_abs, Some, None, Option, mul-le-mul_right, suc-mul, mul-le-mul, arith}
use Rattle.std.specs.List.{slice_get, AllByRecursion}
use Rattle.std.specs.Option.{option_map}
use Rattle.std.proofs.lemmas.Bool.{and_parts, leb-true}
use Rattle.parts.specs.Bounds.{binary_bound, bound_of, most_bound, most_states, statistic_bound, unary_bound}
use Rattle.parts.specs.Formulas.{Measure, numeral, variable, unary, binary, over}
use Rattle.parts.specs.Limits.{lawful_measure, most_numeral}
use Rattle.parts.specs.declared.kinds.Binary.{Binary}
use Rattle.parts.specs.declared.kinds.Statistic.{Statistic}
use Rattle.parts.specs.declared.kinds.Unary.{Unary}
use Rattle.runs.specs.Runs.{State, value_at}
use Rattle.runs.specs.declared.shape.Mark.{Mark}
use Rattle.verdicts.proofs.LawfulFormulas.{binary_parts, over_parts, unary_parts}
use Rattle.verdicts.specs.Arithmetic.{greatest_of, least_of, of_many, of_one, of_two, total}
use Rattle.verdicts.specs.Laws.{NumbersBounded}
use Rattle.verdicts.specs.Tours.{tour, tour_at, within}
use Rattle.verdicts.specs.Verdicts.{both, collect, value}

magnitude_sum : (x y : ℤ) → nat_abs (x +ℤ y) ≤ nat_abs x + nat_abs y
magnitude_sum x y = grind arith

magnitude_opposite : (x : ℤ) → nat_abs (neg_ℤ x) ≡ nat_abs x
magnitude_opposite x = grind arith

magnitude_product : (x y : ℤ) → nat_abs (x *ℤ y) ≡ nat_abs x * nat_abs y
magnitude_product x y = grind arith

-- a number that is within a bound, where it is known; and at most so many of them
abbrev Within : ℕ → Option ℤ → Type 0
Within bound None = Unit {0}
Within bound (Some z) = nat_abs z ≤ bound

abbrev AllWithin : ℕ → ℕ → Option (List ℤ) → Type 0
AllWithin bound most None = Unit {0}
AllWithin bound most (Some xs) = AllByRecursion (λ x. nat_abs x ≤ bound) xs × (length xs ≤ most)

within_either : (bound : ℕ) (t : Bool) (x y : ℤ) → nat_abs x ≤ bound → nat_abs y ≤ bound → nat_abs (cond t x y) ≤ bound
within_either bound t x y h k = grind arith

least_within : (bound : ℕ) (x : ℤ) (xs : List ℤ) → nat_abs x ≤ bound → AllByRecursion (λ x. nat_abs x ≤ bound) xs → nat_abs (least_of x xs) ≤ bound
least_within bound x [] h each = h
least_within bound x (y ∷ ys) h each = grind (arith, within_either, least_within bound y ys each.0 each.1)

greatest_within : (bound : ℕ) (x : ℤ) (xs : List ℤ) → nat_abs x ≤ bound → AllByRecursion (λ x. nat_abs x ≤ bound) xs → nat_abs (greatest_of x xs) ≤ bound
greatest_within bound x [] h each = h
greatest_within bound x (y ∷ ys) h each = grind (arith, within_either, greatest_within bound y ys each.0 each.1)

total_within : (bound : ℕ) (xs : List ℤ) → AllByRecursion (λ x. nat_abs x ≤ bound) xs → nat_abs (total xs) ≤ length xs * bound
total_within bound [] each = omega arith
total_within bound (x ∷ xs) each = grind (arith, magnitude_sum, suc-mul, total_within bound xs each.1)

unary_within : (u : Unary) (bound : ℕ) (x : Option ℤ) → Within bound x → Within (unary_bound u bound) (option_map (of_one u) x)
unary_within u bound x h = grind arith

binary_within : (b : Binary) (m n : ℕ) (x y : Option ℤ) → Within m x → Within n y → Within (binary_bound b m n) (both (of_two b) x y)
binary_within b m n x y h k = grind (arith, magnitude_sum, magnitude_opposite, magnitude_product, mul-le-mul)

statistic_within : (s : Statistic) (bound : ℕ) (xs : Option (List ℤ)) → AllWithin bound most_states xs → Within (statistic_bound s bound) (option_map (of_many s) xs)
statistic_within s bound xs h = grind (arith, least_within, greatest_within, total_within, mul-le-mul_right)

more_within : (bound n : ℕ) (xs : Option (List ℤ)) → AllWithin bound n xs → AllWithin bound (suc n) xs
more_within bound n xs h = grind arith

collect_within : (bound n : ℕ) (x : Option ℤ) (xs : Option (List ℤ)) → Within bound x → AllWithin bound n xs → AllWithin bound (suc n) (both ◌∷◌ x xs)
collect_within bound n x xs h k = grind arith

none_within : (bound n : ℕ) → AllWithin bound n (Some [])
none_within bound n = (tt, omega arith)

module _ (largest : ℕ) (mark : Mark) where
  abbrev Small : State → Type 0
  Small s = AllByRecursion (λ v. nat_abs v ≤ largest) s.values

  tour_within : (bound : ℕ) (m : List State → Option ℤ) → ((t : List State) → length t ≤ most_states → AllByRecursion Small t → Within bound (m t))
      → (a b : ℕ) (run : List State) → length run ≤ most_states → AllByRecursion Small run → AllWithin bound (length run) (tour (collect m) (Some []) None mark a b run)
  tour_within bound m each a b [] few small = tt
  tour_within bound m each a b (s ∷ r) few small =
      let rest = tour_within bound m each (a - s.stay) (b - s.stay) r (omega arith) small.1 in
      by_tests (within mark a s r) (within mark b s r) _ rest
    where
      by_tests : (begun ended : Bool) (x : Option (List ℤ)) → AllWithin bound (length r) x → AllWithin bound (suc (length r)) (tour_at begun ended (collect m (s ∷ r)) (Some []) x)
      by_tests true true x h = collect_within bound (length r) (m (s ∷ r)) (Some []) (each (s ∷ r) few small) (none_within bound (length r))
      by_tests true false x h = collect_within bound (length r) (m (s ∷ r)) x (each (s ∷ r) few small) h
      by_tests false true x h = none_within bound (suc (length r))
      by_tests false false x h = more_within bound (length r) x h

  all_nth : (v : ℕ) (values : List ℤ) → AllByRecursion (λ x. nat_abs x ≤ largest) values → Within largest (slice_get values v)
  all_nth v [] h = tt
  all_nth zero (x ∷ xs) h = h.0
  all_nth (suc v) (x ∷ xs) h = all_nth v xs h.1

  variable_within : (v : ℕ) (run : List State) → AllByRecursion Small run → Within largest (value_at run 0 v)
  variable_within v [] small = tt
  variable_within v (s ∷ r) small = all_nth v s.values small.0

  few_within : (bound n : ℕ) (xs : Option (List ℤ)) → n ≤ most_states → AllWithin bound n xs → AllWithin bound most_states xs
  few_within bound n xs few h = grind arith

  value_within : (m : Measure) (run : List State) → length run ≤ most_states → AllByRecursion Small run → Within (bound_of largest m) (value m mark run)
  value_within (numeral n) run few small = omega arith
  value_within (variable v) run few small = variable_within v run small
  value_within (unary u m) run few small = grind (arith, unary_within, value_within m run few small)
  value_within (binary b m n) run few small = grind (arith, binary_within, value_within m run few small, value_within n run few small)
  value_within (over s w m) run few small =
      statistic_within s (bound_of largest m) _
      (few_within (bound_of largest m) (length run) _ few (tour_within (bound_of largest m) (value m mark) (λ t few' small'. value_within m t few' small') w.first w.last run few small))

bound_lawful : (width largest : ℕ) (inside : Bool) (m : Measure) → lawful_measure width largest inside m ≡ true → largest ≤ most_numeral → bound_of largest m ≤ most_bound
bound_lawful width largest inside (numeral n) h few = grind (arith, leb-true)
bound_lawful width largest inside (variable v) h few = omega arith
bound_lawful width largest inside (unary u m) h few = grind (arith, leb-true, unary_parts)
bound_lawful width largest inside (binary b m n) h few = grind (arith, leb-true, and_parts, binary_parts)
bound_lawful width largest inside (over s w m) h few = grind (arith, leb-true, over_parts)

pub numbers_bounded : NumbersBounded
numbers_bounded width largest inside m h few' mark run few small z known = grind (arith, value_within, bound_lawful)
