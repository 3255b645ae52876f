-- The least nesting with which a text can write a formula. Assumes nothing.
use Rattle.std.specs.Prelude.{ℕ, suc, pred, max, cond, nat_le}
use Rattle.parts.specs.Formulas.{Measure, numeral, variable, unary, binary, over, Property, compare, prefixed, joined}
use Rattle.parts.specs.declared.kinds.Connective.{Connective}
use Rattle.parts.specs.declared.kinds.Connective.TheVariants.{And, Or, Implies, Iff, Until}
use Rattle.parts.specs.declared.kinds.Quantity.{Quantity}
use Rattle.parts.specs.declared.kinds.Quantity.TheVariants.{Value, Change}

-- arguments nest one
abbrev pub measure_nesting : Measure → ℕ
measure_nesting (numeral n) = 0
measure_nesting (variable v) = 0
measure_nesting (unary u m) = suc (measure_nesting m)
measure_nesting (binary b m n) = suc (max (measure_nesting m) (measure_nesting n))
measure_nesting (over s w m) = suc (measure_nesting m)

-- and so does d( )
abbrev pub left_nesting : Quantity → Measure → ℕ
left_nesting Value m = measure_nesting m
left_nesting Change m = suc (measure_nesting m)

-- how loosely a connective binds
abbrev pub connective_level : Connective → ℕ
connective_level And = 1
connective_level Or = 2
connective_level Implies = 3
connective_level Iff = 4
connective_level (Until w) = 5

-- brackets, which nest one, where what stands in them binds more loosely than the place allows
abbrev pub bracket_nesting : ℕ → ℕ → ℕ → ℕ
bracket_nesting allowed level nesting = cond (nat_le level allowed) nesting (suc nesting)

-- Where what stands there may bind as loosely as this level: a prefix, which nests one, takes level 0; a connective takes its own level on the left and what binds tighter on the right.
abbrev pub nesting_at : ℕ → Property → ℕ
nesting_at allowed (compare c q m n) = max (left_nesting q m) (measure_nesting n)
nesting_at allowed (prefixed x p) = suc (nesting_at 0 p)
nesting_at allowed (joined c p q) = bracket_nesting allowed (connective_level c) (max (nesting_at (connective_level c) p) (nesting_at (pred (connective_level c)) q))

abbrev pub depth : Property → ℕ
depth p = nesting_at 5 p
