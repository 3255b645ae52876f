use Rattle.std.proofs.Common.{◌*◌, ◌/◌, ◌∙◌, w32, SFits, arith, rules}
use Rattle.std.proofs.lemmas.Int.{to_z-of_z}
use Rattle.changes.proofs.Places.{first_value}
use Rattle.changes.proofs.layout.ChangeLayout.value_in.Goals as goal

pub loop-state-init : goal.loop-state-init
loop-state-init c =
    let f = c.args.filled in
    let k = c.args.i / 64 in
    let fits : SFits w32 c.value_before-value.result = search rules in
    let stands = c.requires.kept.2 k (omega (arith, c.requires.state)) in
    let first = first_value f.head.shape.width c.args.v (64 * k) f.cells.now _ c.requires.variable stands.1 in
    (c.place_before-at.ensures ∙ stands.0, to_z-of_z w32 _ fits ∙ c.value_before-value.ensures ∙ first)
