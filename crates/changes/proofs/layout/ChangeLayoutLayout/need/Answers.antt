use Rattle.std.proofs.Common.{◌+◌, length, take, ap, ◌∙◌, arith}
use Rattle.runs.specs.Offers.{told}
use Rattle.stores.proofs.LawfulStates.{lawful_width}
use Rattle.changes.specs.Encoding.{change_largest, changes}
use Rattle.changes.proofs.LastValues.{last_kept}
use Rattle.changes.proofs.PackedChanges.{changes_few}
use Rattle.changes.proofs.layout.ChangeLayoutLayout.need.Goals as goal

pub overflow_add-result : goal.overflow_add-result
overflow_add-result c =
    let wide = lawful_width c.args._filled.head.shape change_largest (told c.args.offer) c.requires.lawful in
    let few = changes_few 0 c.args.offer.values.now (take (length c.args.offer.values.now) c.args.self.now.last) in
    omega (arith, few, wide, c.changed.ensures, c.args._filled.head.width)

pub returns : goal.returns
returns c =
    let h = c.args._filled.head in
    let o = told c.args.offer in
    let kept = last_kept h.shape h.count c.args._filled.cells.now c.args.self.now.last o.values (lawful_width h.shape change_largest o c.requires.lawful) c.requires.kept.1 in
    ap (λ n. 2 + n) (c.changed.ensures ∙ ap (λ olds. length (changes 0 o.values olds)) kept)
