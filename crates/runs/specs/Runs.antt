-- What a run is: states in their order, each with a stay and one value for each variable. Assumes nothing.
use Rattle.std.specs.Prelude.{◌≡◌, ℕ, ◌<◌, ◌≤◌, Bool, true, false, List, [], length, ℤ, Some, None, sum_by, Option, unsigned_abs}
use Rattle.std.specs.List.{slice_get, AllByRecursion}
use Rattle.std.specs.Option.{option_map}
use Rattle.std.specs.Int.{IsInRange}
use Rattle.runs.specs.declared.shape.Mark.{Mark}
use Rattle.runs.specs.declared.shape.Mark.TheVariants.{Open, Closed}
use Rattle.runs.specs.declared.shape.Shape.{Shape}

-- a stay in ticks, and the values of the variables in their order
pub record State : Type 0 where
  pub stay : ℕ
  pub values : List ℤ

pub record Run : Type 0 where
  pub shape : Shape
  pub states : List State
  pub mark : Mark

-- What a recorder means: its run, and its lead, the number of coming states that it will pass over before it keeps one.
pub record Meaning : Type 0 where
  pub run : Run
  pub lead : ℕ

-- the two questions that are asked of a mark: do feed and close refuse, and does the last state endure
abbrev pub ended : Mark → Bool
ended Open = false
ended Closed = true

abbrev pub endures : Mark → Bool
endures Open = false
endures Closed = true

-- the stay of state i, and the value of its variable v, where they are there
abbrev pub stay_at : List State → ℕ → Option ℕ
stay_at ss i = option_map (λ s. s.stay) (slice_get ss i)

abbrev pub value_in : Option State → ℕ → Option ℤ
value_in None v = None
value_in (Some s) v = slice_get s.values v

abbrev pub value_at : List State → ℕ → ℕ → Option ℤ
value_at ss i v = value_in (slice_get ss i) v

-- how many ticks some states last
abbrev pub ticks : List State → ℕ
ticks ss = sum_by (λ s. s.stay) ss

pub record Lawful (shape : Shape) (largest : ℕ) (s : State) : Type 0 where
  pub stay : IsInRange 1 shape.longest s.stay
  pub values : length s.values ≡ shape.width
  pub magnitudes : AllByRecursion (λ v. unsigned_abs v ≤ largest) s.values

-- what every recorder's meaning keeps; `largest` is the largest magnitude of its kind
pub record Sound (largest : ℕ) (m : Meaning) : Type 0 where
  pub width : IsInRange 1 16 m.run.shape.width
  pub longest : IsInRange 1 100000 m.run.shape.longest
  pub few : length m.run.states ≤ 4096
  pub lawful : AllByRecursion (Lawful m.run.shape largest) m.run.states
  pub leads : 0 < m.lead → m.run.states ≡ []
