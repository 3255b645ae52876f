-- The ranges of the columns, widened one after the other. Assumes nothing.
use Rattle.std.proofs.Common.{◌≡◌, ℕ, ◌+◌, ◌<◌, ◌≤◌, List, [], ◌∷◌, ◌++◌, length, get_or, take, drop, set, ℤ, Some, None, Option, refl, ◌∙◌, ap, append_assoc, append-nil, arith, take-append-drop}
use Rattle.std.specs.List.{slice_get}
use Rattle.std.proofs.lemmas.List.{drop_more, drop-set-lt, length-drop, take_more_set, take_all, drop_all}
use Rattle.std.proofs.lemmas.Grind.{common_steps}
use Rattle.records.proofs.Nth.{drop_some, drop_none}
use Rattle.runs.specs.Runs.{State, value_in}
use Rattle.survey.specs.Summaries.{values_at}
use Rattle.survey.specs.Ranges.{joined, widened}
use Rattle.survey.specs.declared.range.Range.{Range}

no_values : (rs : List (Option Range)) → widened rs [] ≡ rs
no_values [] = refl
no_values (r ∷ rs) = refl

value_of : (s : Option State) (v : ℕ) → value_in s v ≡ slice_get (values_at s) v
value_of None v = refl
value_of (Some s) v = refl

-- the first i columns hold their new ranges, and what is left gives the rest
module _ (rs : List (Option Range)) (s : Option State) (i : ℕ) (all : List (Option Range)) (sofar : all ≡ take i rs ++ widened (drop i rs) (drop i (values_at s))) where
  pub one_more : (r : Option Range) → i < length rs → (v : ℤ) → Some v ≡ value_in s i → all ≡ take (i + 1) (set rs i (Some (joined (get_or rs i r) v))) ++ widened (drop (i + 1) (set rs i (Some (joined (get_or rs i r) v)))) (drop (i + 1) (values_at s))
  one_more r inside v e =
      let first = drop_more rs i r inside in
      let value = drop_some (values_at s) i v (e ∙ value_of s i) in
      grind (arith, common_steps, sofar, take_more_set, drop-set-lt, append_assoc)

  pub no_more : None ≡ value_in s i → all ≡ take (i + 1) rs ++ widened (drop (i + 1) rs) (drop (i + 1) (values_at s))
  no_more e =
      let none = drop_none (values_at s) i (e ∙ value_of s i) in
      let past : length (values_at s) ≤ i + 1 = omega (arith, simp length-drop at (ap length none)) in
      let none_more = drop_all (i + 1) (values_at s) past in
      grind (arith, common_steps, sofar, no_values, take-append-drop)

  pub all_columns : length rs ≤ i → all ≡ rs
  all_columns end = grind (arith, common_steps, sofar, drop_all, append-nil, take_all)
