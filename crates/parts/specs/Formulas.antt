-- Formulas as trees: measures, which are numbers, and properties, which are true or false. Assumes nothing.
use Rattle.std.specs.Prelude.{ℕ, ℤ}
use Rattle.parts.specs.declared.kinds.Binary.{Binary}
use Rattle.parts.specs.declared.kinds.Comparator.{Comparator}
use Rattle.parts.specs.declared.kinds.Connective.{Connective}
use Rattle.parts.specs.declared.kinds.Prefix.{Prefix}
use Rattle.parts.specs.declared.kinds.Quantity.{Quantity}
use Rattle.parts.specs.declared.kinds.Statistic.{Statistic}
use Rattle.parts.specs.declared.kinds.Unary.{Unary}
use Rattle.parts.specs.declared.kinds.Window.{Window}

pub data Measure : Type 0 where
  numeral : ℤ → Measure
  -- the variable of a column
  variable : ℕ → Measure
  unary : Unary → Measure → Measure
  binary : Binary → Measure → Measure → Measure
  over : Statistic → Window → Measure → Measure

pub data Property : Type 0 where
  -- the left measure is taken as its value or as its change
  compare : Comparator → Quantity → Measure → Measure → Property
  prefixed : Prefix → Property → Property
  joined : Connective → Property → Property → Property
