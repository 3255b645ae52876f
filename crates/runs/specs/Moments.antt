-- To which state a moment belongs. Moments are whole ticks, counted from the start of a state. Assumes nothing.
use Rattle.std.specs.Prelude.{◌≡◌, ℕ, suc, ◌-◌, ◌<◌, ◌≤◌, true, ◌⊎◌, List, length, take, drop}
use Rattle.runs.specs.Runs.{State, endures, ticks}
use Rattle.runs.specs.declared.shape.Mark.{Mark}

-- The moment t, counted from the start of state i, belongs to state j: the least from i on whose end t does not pass.
-- Where the last state endures, it has every moment beyond. A moment at the boundary of two states belongs to the earlier one.
pub record Belongs (mark : Mark) (states : List State) (i t j : ℕ) : Type 0 where
  pub from : i ≤ j
  pub there : j < length states
  pub reached : (t ≤ ticks (take (suc j - i) (drop i states))) ⊎ ((endures mark ≡ true) × (suc j ≡ length states))
  pub least : (k : ℕ) → i ≤ k → k < j → ticks (take (suc k - i) (drop i states)) < t
