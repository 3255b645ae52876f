-- What lists of calls lead to in recorders with cells of their own, and in stores among them. Assumes nothing.
use Rattle.std.specs.Prelude.{ℕ, ◌-◌, cond, List, length, ℤ, nat_le}
use Rattle.runs.specs.Calls.{led}
use Rattle.runs.specs.Offers.{Offered}
use Rattle.runs.specs.Runs.{Meaning, State}
use Rattle.runs.specs.declared.calls.Call.{Call}
use Rattle.runs.specs.declared.shape.Shape.{Shape}
use Rattle.stores.specs.Coding.{Coding}
use Rattle.stores.specs.Filled.{need_after}

-- the free ones of so many cells, where the states fill these
abbrev pub free_beside : ℕ → List State → List ℤ → ℕ
free_beside cells states filled = cond (nat_le 4096 (length states)) 0 (cells - length filled)

-- What a recorder with so many cells means after a list of calls. Its kind has the largest magnitude, the cells that states fill in a run of a shape, and the need of one state more.
abbrev pub led_in : ℕ → (Shape → List State → List ℤ) → (Meaning → Offered → ℕ) → ℕ → List Call → Meaning → Meaning
led_in largest filled need cells = led largest (λ m. free_beside cells m.run.states (filled m.run.shape m.run.states)) need

-- the cells of the states that a store means
abbrev pub cells_in : Coding → Meaning → List ℤ
cells_in k m = k.cells m.run.shape m.run.states

-- what a store with so many cells means after a list of calls
abbrev pub store_led : Coding → ℕ → List Call → Meaning → Meaning
store_led k = led_in k.largest k.cells (need_after k)
