-- The states of a run, summed one after the other. Assumes nothing.
use Rattle.std.proofs.Common.{◌≡◌, ℕ, ◌+◌, ◌<◌, List, length, drop, Some, None, fold, Option, sym, refl, ap, ◌∙◌, arith}
use Rattle.std.specs.Option.{option_map}
use Rattle.std.specs.List.{slice_get}
use Rattle.std.proofs.lemmas.List.{length-drop}
use Rattle.records.proofs.Nth.{drop_some, drop_none}
use Rattle.runs.specs.Runs.{State, stay_at}
use Rattle.survey.specs.Summaries.{state_of, values_at, with_state}
use Rattle.survey.specs.declared.summary.Summary.{Summary}

-- a state that has a stay is there, and is made of that stay and its values
there : (o : Option State) (stay : ℕ) → Some stay ≡ option_map (λ s. s.stay) o → Some (state_of stay (values_at o)) ≡ o
there None stay e = grind (arith, e)
there (Some s) stay e = grind (arith, e)

absent : (o : Option State) → None ≡ option_map (λ s. s.stay) o → None ≡ o
absent None e = refl
absent (Some s) e = grind (arith, e)

-- what is left to sum gives the whole
module _ (ss : List State) (i : ℕ) (all sum : Summary) (sofar : all ≡ fold with_state sum (drop i ss)) where
  pub one_more : (stay : ℕ) (new : Summary) → Some stay ≡ stay_at ss i → new ≡ with_state sum (state_of stay (values_at (slice_get ss i))) → all ≡ fold with_state new (drop (i + 1) ss)
  one_more stay new e is =
      sofar ∙ ap (fold with_state sum) (drop_some ss i (state_of stay (values_at (slice_get ss i))) (there (slice_get ss i) stay e))
      ∙ ap (λ s. fold with_state s (drop (i + 1) ss)) (sym is)

-- each of the states has a stay
pub has_stay : (ss : List State) (i : ℕ) → i < length ss → None ≡ stay_at ss i → ⊥
has_stay ss i inside e = omega (arith, simp length-drop at (ap length (drop_none ss i (absent (slice_get ss i) e))))
