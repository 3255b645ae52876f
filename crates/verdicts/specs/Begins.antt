-- Which closed runs begin with the states that a run keeps. Assumes nothing.
use Rattle.std.specs.Prelude.{◌≡◌, true, List, ◌++◌, length}
use Rattle.std.specs.Int.{IsInRange}
use Rattle.std.specs.List.{AllByRecursion}
use Rattle.runs.specs.Runs.{Run, State, endures}
use Rattle.runs.specs.declared.shape.Shape.{Shape}

-- a state of a run of this shape, with values of any size
pub record Fits (shape : Shape) (s : State) : Type 0 where
  pub stay : IsInRange 1 shape.longest s.stay
  pub values : length s.values ≡ shape.width

-- None or more states stand after those that are kept. There may be any number of them.
pub record BeginsWith (kept whole : Run) : Type 0 where
  pub shape : whole.shape ≡ kept.shape
  pub closed : endures whole.mark ≡ true
  pub more : List State
  pub states : whole.states ≡ kept.states ++ more
  pub fits : AllByRecursion (Fits kept.shape) more
