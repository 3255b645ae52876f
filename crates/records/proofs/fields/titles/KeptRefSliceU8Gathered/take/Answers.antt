use Rattle.std.proofs.Common.{[], ◌∷◌, ◌++◌, Ok, sym, ap, ◌∙◌}
use Rattle.records.specs.Headers.{titles_of}
use Rattle.records.specs.RecordFields.{map_ok}
use Rattle.records.specs.Told.{firsts, lent, seen_field}
use Rattle.records.proofs.Titles.{title_push}
use Rattle.records.proofs.fields.titles.KeptRefSliceU8Gathered.take.Goals as goal

pub returns : goal.returns
returns c = λ at ss held.
    ap Ok (ap lent c.keep.ensures ∙ title_push (firsts c.args.self.now) c.in_ok-title.title at ss held)
    ∙ ap (map_ok (λ s. titles_of at (ss ++ (s ∷ [])))) (ap (map_ok seen_field) (sym c.in_ok-title.was) ∙ c.title_in.ensures)
