use Rattle.std.proofs.Common.{ap, ◌∙◌, rules, tests, bytes_eq}
use Rattle.std.proofs.lemmas.Iterator.{YieldsList-from_slice}
use Rattle.std.proofs.lemmas.Iterator.Search.{position_from_yields_List}
use Rattle.records.specs.Headers.{column_from}
use Rattle.records.proofs.NameSearch.{column_at_position}
use Rattle.records.proofs.heading.Header.column.Goals as goal

pub returns : goal.returns
returns c =
    position_from_yields_List (λ own. bytes_eq own.now c.args.name.now) _ _ c.position.result c.position.ensures.ran (YieldsList-from_slice _ c.iter.ensures.rest) (λ x b q k. search (rules, tests))
    ∙ column_at_position c.names.result.now c.args.name.now ∙ ap (λ ns. column_from ns c.args.name.now 0) c.names.ensures
