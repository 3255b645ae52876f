-- A store as a recorder: its meaning, its cells, and what a feed does to them. Assumes nothing.
use Rattle.std.specs.Prelude.{ℕ, List, length, ℤ, Option}
use Rattle.runs.specs.Feeding.{feed_refusal}
use Rattle.runs.specs.Offers.{Offered}
use Rattle.runs.specs.Runs.{Meaning, State}
use Rattle.runs.specs.declared.refusal.Refusal.{Refusal}
use Rattle.stores.specs.Cells.{free_after, free_of}
use Rattle.stores.specs.Filled.{meaning_by, need_after, states_by, written_by}
use Rattle.stores.specs.declared.layout.Layout.{Ghosts}
use Rattle.stores.specs.declared.store.Store.{Store}

-- the cells that are lent to it, filled or not
abbrev pub cells_of : {L : Type 0} {g : Ghosts L} → Store L g → List ℤ
cells_of r = r.cells.now

-- the states that its filled cells tell
abbrev pub states_of : {L : Type 0} {g : Ghosts L} → Store L g → List State
states_of {g} r = states_by g.coding r.head (cells_of r)

-- the run that it records
abbrev pub meaning_of : {L : Type 0} {g : Ghosts L} → Store L g → Meaning
meaning_of {g} r = meaning_by g.coding r.head (cells_of r)

-- how many of its cells are free
abbrev pub free_in : {L : Type 0} {g : Ghosts L} → Store L g → ℕ
free_in r = free_of r.head (length (cells_of r))

-- how many cells a state needs in it
abbrev pub need_in : {L : Type 0} {g : Ghosts L} → Store L g → Offered → ℕ
need_in {g} r = need_after g.coding (meaning_of r)

-- why it refuses a state, if it does
abbrev pub refusal_by : {L : Type 0} {g : Ghosts L} → Store L g → Offered → Option Refusal
refusal_by {g} r o = feed_refusal g.coding.largest (free_in r) (need_in r o) (meaning_of r) o

-- its cells once a state is written behind the others
abbrev pub written_in : {L : Type 0} {g : Ghosts L} → Store L g → Offered → List ℤ
written_in {g} r = written_by g.coding r.head (cells_of r)

-- the free cells once a state is kept: they fall by what it needs
abbrev pub left_in : {L : Type 0} {g : Ghosts L} → Store L g → Offered → ℕ
left_in r o = free_after r.head (free_in r) (need_in r o)
