use Rattle.std.proofs.Common.{◌≡◌, length, drop}
use Rattle.stores.specs.Recorded.{store_led}
use Rattle.stores.specs.Stores.{cells_of, meaning_of}
use Rattle.stores.proofs.RecordedCalls.{Holds}
use Rattle.stores.proofs.store.Store.carry_out_all.Given as goal

-- what is left of the calls leads to the same, and the cells hold the states so far
abbrev pub invariant-loop-call : goal.invariant-loop-call
invariant-loop-call g l =
    let k = g.L.Layout.coding in
    let first = l.initial.self in
    (store_led k (length (cells_of first)) (drop l.call-index l.calls) (meaning_of l.self) ≡ store_led k (length (cells_of first)) l.calls (meaning_of first))
    × Holds k.cells (cells_of first) (meaning_of l.self) (cells_of l.self)
    × (l.self.cells.ghost_name ≡ first.cells.ghost_name)
