use Rattle.std.proofs.Common.{◌∙◌, rules, tests}
use Rattle.std.proofs.lemmas.Iterator.{YieldsList-from_slice}
use Rattle.std.proofs.lemmas.Iterator.Consumers.{YieldsList-from_enumerate}
use Rattle.std.proofs.lemmas.Iterator.Search.{position_from_yields_List}
use Rattle.records.proofs.NameSearch.{is_bad, bad_at_position}
use Rattle.records.proofs.heading.checks.bad_title.Goals as goal

pub returns : goal.returns
returns c =
    position_from_yields_List (is_bad c.args.titles.now) _ _ c.position.result c.position.ensures.ran
    (YieldsList-from_enumerate (YieldsList-from_slice c.args.titles.now cc) (cc))
    (λ x b q k. search (rules, tests))
    ∙ bad_at_position c.args.titles.now
