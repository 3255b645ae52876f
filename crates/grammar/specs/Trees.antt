-- Parse trees: a criterion as it is written, with its brackets, signs and names. Assumes nothing.
use Rattle.std.specs.Prelude.{ℕ, List}
use Rattle.parts.specs.declared.kinds.Binary.{Binary}
use Rattle.parts.specs.declared.kinds.Comparator.{Comparator}
use Rattle.parts.specs.declared.kinds.Quantity.{Quantity}
use Rattle.parts.specs.declared.kinds.Statistic.{Statistic}
use Rattle.parts.specs.declared.kinds.Unary.{Unary}
use Rattle.tokens.specs.declared.words.Sign.{Sign}

pub data MeasureTree : Type 0 where
  numeral : Sign → ℕ → MeasureTree
  variable : List ℕ → MeasureTree
  unary : Unary → MeasureTree → MeasureTree
  binary : Binary → MeasureTree → MeasureTree → MeasureTree
  -- over the window between two moments
  over : Statistic → ℕ → ℕ → MeasureTree → MeasureTree

-- a prefix as it is written: X alone, or X[k], where k may have a plus
pub data Lead : Type 0 where
  negation : Lead
  next : Lead
  skipping : Sign → ℕ → Lead
  eventually : ℕ → ℕ → Lead
  always : ℕ → ℕ → Lead

-- a connective as it is written
pub data Link : Type 0 where
  and : Link
  or : Link
  implies : Link
  iff : Link
  until : ℕ → ℕ → Link

pub data PropertyTree : Type 0 where
  -- the left measure stands in d( ) where its change is taken
  compare : Quantity → Comparator → MeasureTree → MeasureTree → PropertyTree
  prefixed : Lead → PropertyTree → PropertyTree
  joined : Link → PropertyTree → PropertyTree → PropertyTree
  bracketed : PropertyTree → PropertyTree
