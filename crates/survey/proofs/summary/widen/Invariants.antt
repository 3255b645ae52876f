use Rattle.std.proofs.Common.{◌≡◌, ◌++◌, take, drop}
use Rattle.std.specs.List.{slice_get}
use Rattle.survey.specs.Ranges.{widened}
use Rattle.survey.specs.Summaries.{values_at}
use Rattle.survey.proofs.summary.widen.Given as goal

abbrev pub invariant-loop-column : goal.invariant-loop-column
invariant-loop-column g l =
    let values = values_at (slice_get (g.R.Recorder.meaning l.recorder).run.states l.i) in
    widened l.initial.ranges values ≡ take l.column l.ranges ++ widened (drop l.column l.ranges) (drop l.column values)
