-- Changes as a recorder, in the words of its store: its meaning, its cells, and what a feed does to them. Assumes nothing.
use Rattle.std.specs.Prelude.{ℕ, List, ℤ, Option}
use Rattle.runs.specs.Offers.{Offered}
use Rattle.runs.specs.Runs.{Meaning}
use Rattle.runs.specs.declared.refusal.Refusal.{Refusal}
use Rattle.stores.specs.Stores as stores
use Rattle.changes.specs.declared.changes.Changes.{Changes}

-- the cells that are lent to it, filled or not
abbrev pub cells_of : Changes → List ℤ
cells_of r = stores.cells_of r.store

-- the run that it records
abbrev pub meaning_of : Changes → Meaning
meaning_of r = stores.meaning_of r.store

-- how many of its cells are free
abbrev pub free_in : Changes → ℕ
free_in r = stores.free_in r.store

-- how many cells a state needs in it
abbrev pub need_in : Changes → Offered → ℕ
need_in r = stores.need_in r.store

-- why it refuses a state, if it does
abbrev pub refusal_by : Changes → Offered → Option Refusal
refusal_by r = stores.refusal_by r.store

-- its cells once a state is written behind the others
abbrev pub written_in : Changes → Offered → List ℤ
written_in r = stores.written_in r.store

-- the free cells once a state is kept: they fall by what it needs
abbrev pub left_in : Changes → Offered → ℕ
left_in r = stores.left_in r.store
