use Rattle.std.proofs.Common.{◌≡◌}
use Rattle.changes.specs.Encoding.{place_of}
use Rattle.changes.proofs.layout.ChangeLayout.place.Given as goal

abbrev pub invariant-loop-state : goal.invariant-loop-state
invariant-loop-state l = l.at ≡ place_of l.filled.cells.now l._state
