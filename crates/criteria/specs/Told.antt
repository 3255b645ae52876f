-- What a formula tells. Assumes nothing.
use Rattle.std.specs.Prelude.{ℕ, List, [], ◌∷◌, take, pos}
use Rattle.parts.specs.declared.kinds.Comparator.TheVariants.{Equal}
use Rattle.parts.specs.declared.kinds.Part.{Part}
use Rattle.parts.specs.declared.kinds.Part.TheVariants.{Numeral, Compare}
use Rattle.parts.specs.declared.kinds.Quantity.TheVariants.{Value}
use Rattle.criteria.specs.declared.formula.Formula.{Formula}

-- its parts in order, the number of columns and the magnitude that it was read for
pub record Written : Type 0 where
  pub parts : List Part
  pub width : ℕ
  pub magnitude : ℕ

abbrev pub written : Formula → Written
written f = record { parts = take f.count f.parts; width = f.width; magnitude = f.magnitude }

-- a new formula is 0=0, for one column and the largest magnitude
abbrev pub fresh : Written
fresh = record { parts = Numeral (pos 0) ∷ Numeral (pos 0) ∷ Compare Equal Value 0 ∷ []; width = 1; magnitude = 1000000000 }
