use Rattle.std.proofs.Common.{◌+◌, ap, arith}
use Rattle.survey.proofs.StateSums.{has_stay, one_more}
use Rattle.survey.proofs.summary.Summary.of.Goals as goal
use Rattle.survey.proofs.summary.Summary.of.Goals.{in-Some, in_default}

pub loop-i-preserved : goal.loop-i-preserved
loop-i-preserved g c =
    let states = (g.R.Recorder.meaning c.args.recorder.now).run.states in
    elim c.match-stay.branch [
      | in-Some w ↦ rw w.summary-is (
        one_more states c.loop-i.i _ _ c.loop-i.invariant.0 w.in-Some.stay _ w.in-Some.ensures w.add.ensures.sums,
        rw w.add.ensures.sums (ap (λ n. n + 1) c.loop-i.invariant.1),
        w.add.ensures.small,
      )
      | in_default w ↦ absurd (has_stay states c.loop-i.i (omega (arith, c.loop-i-test.true, c.count-i-end.ensures)) w.in_default.ensures)
    ]
