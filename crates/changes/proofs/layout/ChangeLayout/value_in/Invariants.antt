use Rattle.std.proofs.Common.{◌≡◌}
use Rattle.changes.specs.Encoding.{place_of, value_before}
use Rattle.changes.proofs.layout.ChangeLayout.value_in.Given as goal

abbrev pub invariant-loop-state : goal.invariant-loop-state
invariant-loop-state l = (l.at ≡ place_of l.filled.cells.now l._state) × (l.value ≡ value_before l.filled.cells.now l.v l._state)
