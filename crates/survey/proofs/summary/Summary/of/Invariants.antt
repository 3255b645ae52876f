use Rattle.std.proofs.Common.{◌≡◌, ◌*◌, ◌^◌, ◌≤◌, drop, fold}
use Rattle.survey.specs.Summaries.{summary_of, with_state}
use Rattle.survey.proofs.summary.Summary.of.Given as goal

abbrev pub invariant-loop-i : goal.invariant-loop-i
invariant-loop-i g l =
    let states = (g.R.Recorder.meaning l.recorder).run.states in
    (summary_of states ≡ fold with_state l.summary (drop l.i states)) × (l.summary.states ≡ l.i) × (l.summary.ticks ≤ l.summary.states * 2 ^ 64)
