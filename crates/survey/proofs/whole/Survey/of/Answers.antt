use Rattle.std.proofs.Common.{length, ap, ◌∙◌}
use Rattle.records.specs.Told.{cursor}
use Rattle.records.specs.Told.{names}
use Rattle.runs.specs.Shapes.{begun}
use Rattle.rows.specs.RowRuns.{cells_of, meaning_of}
use Rattle.survey.specs.Fed.{rows_free}
use Rattle.survey.proofs.FedRuns.{free_is}
use Rattle.survey.proofs.WholeFile.{whole_file}
use Rattle.survey.proofs.whole.Survey.of.Goals as goal

pub returns : goal.returns
returns c =
    let fields = c.over-fields.result in
    let read = c.header.new.self in
    let rows = c.feed_records.new.rows in
    let told = c.in_ok-header.ensures in
    let started = c.start-rows.ensures in
    let fed = c.in_ok-feed_records.ensures in
    let long = fed.long ∙ ap length started.cells in
    whole_file (length c.args.cells.now) (length (cells_of c.start-rows.result)) c.args.bytes.now fields.bytes.now read.bytes.now (cursor fields) (cursor read) (names c.in_ok-header.header) (meaning_of c.start-rows.result) (meaning_of rows) _ _
    (ap (λ b. b.now) c.over-fields.ensures.bytes) c.over-fields.ensures.place told.answer told.after (ap (λ b. b.now) told.bytes)
    (ap length started.cells) (started.meaning ∙ ap begun c.shape_of.ensures) fed.run
    c.of.ensures (c.free.ensures ∙ free_is rows ∙ ap (λ n. rows_free n (meaning_of rows)) long)
