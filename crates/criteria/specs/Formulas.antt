-- What every formula keeps. Assumes nothing.
use Rattle.std.specs.Prelude.{ℕ, Bool, false, ◌&&◌, List, pos, Some, None, Option, nat_le}
use Rattle.parts.specs.Formulas.{Property}
use Rattle.parts.specs.Limits.{lawful}
use Rattle.parts.specs.Nesting.{depth}
use Rattle.parts.specs.Order.{tree_of}
use Rattle.parts.specs.declared.kinds.Part.{Part}
use Rattle.parts.specs.declared.kinds.Part.TheVariants.{Numeral}
use Rattle.grammar.specs.Rules.{most_nesting}

-- a tree within the limits, for so many columns and values within a magnitude, that a text can write
abbrev pub is_within : ℕ → ℕ → Option Property → Bool
is_within width largest None = false
is_within width largest (Some p) = lawful width largest p && nat_le (depth p) most_nesting

-- these parts are those of one such tree, in order
abbrev pub is_formula : ℕ → ℕ → List Part → Bool
is_formula width largest parts = is_within width largest (tree_of parts)

-- what stands in the places behind the parts
abbrev pub blank : Part
blank = Numeral (pos 0)
