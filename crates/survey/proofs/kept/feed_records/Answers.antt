use Rattle.std.proofs.Common.{Ok, sym, ap, ◌∙◌}
use Rattle.std.proofs.lemmas.Result.{err_from_is_err_and}
use Rattle.records.specs.Told.{cursor}
use Rattle.survey.proofs.FedRuns.{called, all_turns, as_long, refused, fed_more, ended}
use Rattle.survey.proofs.kept.feed_records.Goals as goal

pub returns-in_err-feed_record : goal.returns-in_err-feed_record
returns-in_err-feed_record c =
    let exit = err_from_is_err_and c.from_residual.result c.from_residual.ensures.1 in
    let told = c.feed_record.ensures in
    let call = called c.loop.rows c.feed_record.new.recorder (cursor c.loop.fields) (cursor c.feed_record.new.fields) c.feed_record.result c.loop.invariant.1 (record { told = told.answer; means = told.after; holds = told.cells; on = told.reader }) in
    rw (exit.1, exit.2)
    (record { run = sym (refused _ _ _ _ _ c.loop.invariant.0 c.loop-test.true call _ c.in_err-feed_record.was); long = as_long _ _ _ _ _ c.loop.invariant.0 c.loop-test.true call })

pub returns-then-not-branch : goal.returns-then-not-branch
returns-then-not-branch c =
    let told = c.feed_record.ensures in
    let call = called c.loop.rows c.feed_record.new.recorder (cursor c.loop.fields) (cursor c.feed_record.new.fields) c.feed_record.result c.loop.invariant.1 (record { told = told.answer; means = told.after; holds = told.cells; on = told.reader }) in
    record {
      run = sym (ended _ _ _ _ _ c.loop.invariant.0 c.loop-test.true call (c.in_ok-feed_record.was ∙ ap Ok c.if-not-branch.true));
      long = as_long _ _ _ _ _ c.loop.invariant.0 c.loop-test.true call;
    }

pub loop-preserved : goal.loop-preserved
loop-preserved c =
    let told = c.feed_record.ensures in
    let call = called c.loop.rows c.feed_record.new.recorder (cursor c.loop.fields) (cursor c.feed_record.new.fields) c.feed_record.result c.loop.invariant.1 (record { told = told.answer; means = told.after; holds = told.cells; on = told.reader }) in (
      fed_more _ _ _ _ _ c.loop.invariant.0 c.loop-test.true call (c.in_ok-feed_record.was ∙ ap Ok c.if-not-branch.false),
      told.bytes ∙ c.loop.invariant.1,
    )

pub returns : goal.returns
returns c = record { run = sym (all_turns _ _ _ _ _ c.loop.invariant.0 c.loop-test.false); long = c.loop.invariant.0.long }
