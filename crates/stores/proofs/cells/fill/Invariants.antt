use Rattle.std.proofs.Common.{◌≡◌, length, take}
use Rattle.stores.proofs.cells.fill.Given as goal

abbrev pub invariant-loop-v : goal.invariant-loop-v
invariant-loop-v l = (length l.cell-items ≡ length l.initial.cell-items) × (take l.v l.cell-items ≡ take l.v l.values)
