use Rattle.std.proofs.Common.{◌≡◌, length}
use Rattle.records.specs.Told.{cursor}
use Rattle.rows.specs.RowRuns.{cells_of, meaning_of}
use Rattle.survey.proofs.FedRuns.{Sofar}
use Rattle.survey.proofs.kept.feed_records.Given as goal

abbrev pub invariant-loop : goal.invariant-loop
invariant-loop l =
    let first = l.initial.fields in
    let rows = l.initial.rows in
    Sofar (length (cells_of rows)) first.bytes.now l.most (cursor first) (meaning_of rows) l.counter (cursor l.fields) l.rows × (l.fields.bytes ≡ first.bytes)
