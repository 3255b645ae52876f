-- The reach of a formula: how many ticks of states, of stays of at most `longest`, always decide it. Assumes nothing.
use Rattle.std.specs.Prelude.{ℕ, ◌+◌, ◌*◌, max}
use Rattle.parts.specs.Formulas.{Measure, numeral, variable, unary, binary, over, Property, compare, prefixed, joined}
use Rattle.parts.specs.declared.kinds.Connective.{Connective}
use Rattle.parts.specs.declared.kinds.Connective.TheVariants.{And, Or, Implies, Iff, Until}
use Rattle.parts.specs.declared.kinds.Prefix.{Prefix}
use Rattle.parts.specs.declared.kinds.Prefix.TheVariants.{Not, Next, Eventually, Always}
use Rattle.parts.specs.declared.kinds.Quantity.{Quantity}
use Rattle.parts.specs.declared.kinds.Quantity.TheVariants.{Value, Change}

abbrev pub measure_reach : Measure → ℕ
measure_reach (numeral n) = 1
measure_reach (variable v) = 1
measure_reach (unary u m) = measure_reach m
measure_reach (binary b m n) = max (measure_reach m) (measure_reach n)
measure_reach (over s w m) = w.last + 1

-- what a prefix or a connective adds to the reach of what it stands by
abbrev pub prefix_reach : ℕ → Prefix → ℕ
prefix_reach longest Not = 0
prefix_reach longest (Next k) = k * longest
prefix_reach longest (Eventually w) = w.last
prefix_reach longest (Always w) = w.last

abbrev pub connective_reach : Connective → ℕ
connective_reach And = 0
connective_reach Or = 0
connective_reach Implies = 0
connective_reach Iff = 0
connective_reach (Until w) = w.last

-- what a comparison adds: the next state of its left measure may be as far off as the longest stay
abbrev pub quantity_reach : ℕ → Quantity → ℕ
quantity_reach longest Value = 0
quantity_reach longest Change = longest

abbrev pub reach_of : ℕ → Property → ℕ
reach_of longest (compare c q m n) = max (measure_reach m) (measure_reach n) + quantity_reach longest q
reach_of longest (prefixed x p) = reach_of longest p + prefix_reach longest x
reach_of longest (joined c p q) = max (reach_of longest p) (reach_of longest q) + connective_reach c
