use Rattle.std.proofs.Common.{[], ◌∷◌, ◌++◌, Ok, sym, ap, ◌∙◌}
use Rattle.records.specs.Records.{draft_of, with_entry}
use Rattle.records.specs.RecordFields.{map_ok}
use Rattle.records.proofs.Entries.{draft_push}
use Rattle.records.proofs.fields.records.DraftGathered.take.Goals as goal

pub returns : goal.returns
returns c = λ at es held.
    ap Ok (c.add.ensures ∙ ap (λ d. with_entry d c.in_ok-number_in.field-0) held ∙ draft_push at es c.in_ok-number_in.field-0)
    ∙ ap (map_ok (λ e. draft_of at (es ++ (e ∷ [])))) (sym c.in_ok-number_in.was ∙ c.number_in.ensures)
