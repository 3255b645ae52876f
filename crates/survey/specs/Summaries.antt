-- The sums over the states of a run. Assumes nothing.
use Rattle.std.specs.Prelude.{ℕ, ◌+◌, List, [], replicate, ℤ, Some, None, fold, Option}
use Rattle.runs.specs.Runs.{State}
use Rattle.survey.specs.Ranges.{widened}
use Rattle.survey.specs.declared.summary.Summary.{Summary}

-- the number of states, their ticks in all, and the ranges of the sixteen columns that there may be
abbrev pub no_summary : Summary
no_summary = record { states = 0; ticks = 0; ranges = replicate 16 None }

abbrev pub with_state : Summary → State → Summary
with_state s state = record { states = s.states + 1; ticks = s.ticks + state.stay; ranges = widened s.ranges state.values }

abbrev pub summary_of : List State → Summary
summary_of ss = fold with_state no_summary ss

abbrev pub state_of : ℕ → List ℤ → State
state_of stay values = record { stay = stay; values = values }

-- the values of a state, and none of no state
abbrev pub values_at : Option State → List ℤ
values_at None = []
values_at (Some s) = s.values
