use Rattle.std.proofs.Common.{sym, ap, ◌∙◌, arith, w64, SFits, rules}
use Rattle.std.specs.List.{slice_get}
use Rattle.std.proofs.lemmas.Int.{to_z-of_z}
use Rattle.std.proofs.lemmas.List.{set-get_or}
use Rattle.survey.specs.Ranges.{joined}
use Rattle.survey.proofs.Widening.{one_more, no_more, all_columns}
use Rattle.survey.proofs.summary.widen.Goals as goal
use Rattle.survey.proofs.summary.widen.Goals.{in-Some, in_default}

pub loop-column-preserved : goal.loop-column-preserved
loop-column-preserved g c =
    let state = slice_get (g.R.Recorder.meaning c.args.recorder.now).run.states c.args.i in
    let i = c.loop-column.column in
    let sofar = c.loop-column.invariant in
    elim c.match-value.branch [
      | in-Some w ↦ (
          let fits : SFits w64 w.in-Some.value = search rules in
          let made = w.joined.ensures ∙ ap (joined _) (to_z-of_z w64 w.in-Some.value fits) in
          rw (w.ranges-is, made) (one_more c.loop-column.ranges state i _ sofar _ (omega (arith, c.loop-column.auto.ranges)) w.in-Some.value w.in-Some.ensures)
          )
      | in_default w ↦ rw (w.ranges-is, set-get_or) (no_more c.loop-column.ranges state i _ sofar w.in_default.ensures)
    ]

pub returns : goal.returns
returns g c =
    let state = slice_get (g.R.Recorder.meaning c.args.recorder.now).run.states c.args.i in
    sym (all_columns c.loop-column.ranges state c.loop-column.column _ c.loop-column.invariant (omega (arith, c.loop-column.auto.ranges, c.loop-column-test.false)))
