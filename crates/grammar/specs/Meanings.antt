-- The formula that a parse tree writes, for the names of a run's columns. Assumes nothing.
use Rattle.std.specs.Prelude.{ℕ, List, ℤ, pos, neg_ℤ, Option}
use Rattle.std.specs.Option.{unwrap_or}
use Rattle.parts.specs.Formulas as formula
use Rattle.parts.specs.Formulas.{Measure, Property}
use Rattle.parts.specs.declared.kinds.Connective.{Connective}
use Rattle.parts.specs.declared.kinds.Connective.TheVariants as connective
use Rattle.parts.specs.declared.kinds.Prefix.{Prefix}
use Rattle.parts.specs.declared.kinds.Prefix.TheVariants as prefix
use Rattle.parts.specs.declared.kinds.Window.{Window}
use Rattle.tokens.specs.declared.words.Sign.{Sign}
use Rattle.tokens.specs.declared.words.Sign.TheVariants.{Unsigned, Plus, Minus}
use Rattle.grammar.specs.Trees.{MeasureTree, numeral, variable, unary, binary, over, Lead, negation, next, skipping, eventually, always, Link, and, or, implies, iff, until, PropertyTree, compare, prefixed, joined, bracketed}

-- the column of a name, where there is one
abbrev pub Columns : Type 0
Columns = List ℕ → Option ℕ

abbrev pub signed : Sign → ℕ → ℤ
signed Unsigned n = pos n
signed Plus n = pos n
signed Minus n = neg_ℤ (pos n)

abbrev pub window : ℕ → ℕ → Window
window a b = record { first = a; last = b }

-- a name that has no column is refused before its measure is made
abbrev pub measure_of : Columns → MeasureTree → Measure
measure_of columns (numeral s n) = formula.numeral (signed s n)
measure_of columns (variable name) = formula.variable (unwrap_or (columns name) 0)
measure_of columns (unary u m) = formula.unary u (measure_of columns m)
measure_of columns (binary b m n) = formula.binary b (measure_of columns m) (measure_of columns n)
measure_of columns (over s a b m) = formula.over s (window a b) (measure_of columns m)

-- X alone is X[1]
abbrev pub prefix_of : Lead → Prefix
prefix_of negation = prefix.Not
prefix_of next = prefix.Next 1
prefix_of (skipping s k) = prefix.Next k
prefix_of (eventually a b) = prefix.Eventually (window a b)
prefix_of (always a b) = prefix.Always (window a b)

abbrev pub connective_of : Link → Connective
connective_of and = connective.And
connective_of or = connective.Or
connective_of implies = connective.Implies
connective_of iff = connective.Iff
connective_of (until a b) = connective.Until (window a b)

-- brackets only group
abbrev pub property_of : Columns → PropertyTree → Property
property_of columns (compare q c m n) = formula.compare c q (measure_of columns m) (measure_of columns n)
property_of columns (prefixed l p) = formula.prefixed (prefix_of l) (property_of columns p)
property_of columns (joined l p q) = formula.joined (connective_of l) (property_of columns p) (property_of columns q)
property_of columns (bracketed p) = property_of columns p
