-- How large the value of a measure can be on a run of at most 4,096 states whose values are within a magnitude. Assumes nothing.
use Rattle.std.specs.Prelude.{ℕ, ◌+◌, ◌*◌, Bool, true, cond, ◌&&◌, Some, None, Option, nat_le, unsigned_abs}
use Rattle.parts.specs.Formulas.{Measure, numeral, variable, unary, binary, over}
use Rattle.parts.specs.declared.kinds.Binary.{Binary}
use Rattle.parts.specs.declared.kinds.Binary.TheVariants.{Add, Subtract, Multiply}
use Rattle.parts.specs.declared.kinds.Statistic.{Statistic}
use Rattle.parts.specs.declared.kinds.Statistic.TheVariants.{Min, Max, Sum, Count}
use Rattle.parts.specs.declared.kinds.Unary.{Unary}
use Rattle.parts.specs.declared.kinds.Unary.TheVariants.{Abs, Sign}

-- no bound may pass this, and no factor's bound that
abbrev pub most_bound : ℕ
most_bound = 10000000000000

abbrev pub most_factor : ℕ
most_factor = 1000000000

abbrev pub most_states : ℕ
most_states = 4096

abbrev pub unary_bound : Unary → ℕ → ℕ
unary_bound Abs n = n
unary_bound Sign n = 1

abbrev pub binary_bound : Binary → ℕ → ℕ → ℕ
binary_bound Add m n = m + n
binary_bound Subtract m n = m + n
binary_bound Multiply m n = m * n

abbrev pub statistic_bound : Statistic → ℕ → ℕ
statistic_bound Min n = n
statistic_bound Max n = n
statistic_bound Sum n = most_states * n
statistic_bound Count n = most_states

-- the bound of a measure, where every value is within `largest`
abbrev pub bound_of : ℕ → Measure → ℕ
bound_of largest (numeral n) = unsigned_abs n
bound_of largest (variable v) = largest
bound_of largest (unary u m) = unary_bound u (bound_of largest m)
bound_of largest (binary b m n) = binary_bound b (bound_of largest m) (bound_of largest n)
bound_of largest (over s w m) = statistic_bound s (bound_of largest m)

-- the arguments of multiply are factors
abbrev pub factors_kept : Binary → ℕ → ℕ → Bool
factors_kept Add m n = true
factors_kept Subtract m n = true
factors_kept Multiply m n = nat_le m most_factor && nat_le n most_factor

-- the rule of bounds at a measure, told from the bounds of its arguments
abbrev pub unary_kept : Unary → ℕ → Bool
unary_kept u n = nat_le (unary_bound u n) most_bound

abbrev pub binary_kept : Binary → ℕ → ℕ → Bool
binary_kept b m n = factors_kept b m n && nat_le (binary_bound b m n) most_bound

abbrev pub statistic_kept : Statistic → ℕ → Bool
statistic_kept s n = nat_le (statistic_bound s n) most_bound

-- the same at a measure whose arguments keep it
abbrev pub bound_kept : ℕ → Measure → Bool
bound_kept largest (numeral n) = true
bound_kept largest (variable v) = true
bound_kept largest (unary u m) = unary_kept u (bound_of largest m)
bound_kept largest (binary b m n) = binary_kept b (bound_of largest m) (bound_of largest n)
bound_kept largest (over s w m) = statistic_kept s (bound_of largest m)

-- a bound, if the rule is kept
abbrev pub if_kept : Bool → ℕ → Option ℕ
if_kept kept bound = cond kept (Some bound) None
