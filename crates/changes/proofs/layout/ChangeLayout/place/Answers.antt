use Rattle.std.proofs.Common.{◌/◌, ◌∙◌, arith}
use Rattle.changes.proofs.Places.{walk_fits}
use Rattle.changes.proofs.layout.ChangeLayout.place.Goals as goal

pub loop-state-init : goal.loop-state-init
loop-state-init c = c.place_before-at.ensures ∙ (c.requires.kept.2 (c.args.i / 64) (omega (arith, c.requires.state))).0

pub returns-clause-there : goal.returns-clause-there
returns-clause-there c =
    let f = c.args.filled in
    let upto = c.loop-state.auto._state-end (omega arith) in
    omega (arith, walk_fits f.cells.now c.loop-state._state f.head.count c.loop-state.at c.requires.kept.0 c.loop-state.invariant (omega (arith, c.requires.state)))
