use Rattle.std.proofs.Common.{ap, ◌∙◌, w32, to_z, of_z, rules, tests}
use Rattle.std.proofs.lemmas.Int.{to_z-of_z}
use Rattle.std.proofs.lemmas.Iterator.{YieldsList-from_slice}
use Rattle.std.proofs.lemmas.Iterator.Consumers.{fold_from_yields_List}
use Rattle.changes.specs.Encoding.{changed_by, changed_to}
use Rattle.changes.proofs.layout.reading.value_past.Goals as goal

pub returns : goal.returns
returns c =
    to_z-of_z w32 c.fold.result (record { sfits = c.fold.type_inv })
    ∙ fold_from_yields_List _ (λ before cell. changed_by c.args.v cell before) (to_z w32 (of_z w32 c.args.before)) c.fold.result c.fold.ensures.ran (YieldsList-from_slice c.args.changes.now cc) (λ a x b q k. search (rules, tests))
    ∙ ap (changed_to c.args.v c.args.changes.now) (to_z-of_z w32 c.args.before c.ranges.before)
