-- Whole numerals: an optional sign, then digits. Assumes nothing.
use Rattle.std.specs.Prelude.{ℕ, ◌+◌, ◌-◌, ◌*◌, ◌^◌, min, Bool, false, cond, ◌||◌, List, [], ◌∷◌, drop, ℤ, pos, neg_ℤ, Some, None, Option, ◌==◌, nat_le}
use Rattle.std.specs.Option.{option_map}
use Rattle.std.specs.Str.{all_ascii_digits}
use Rattle.records.specs.declared.numeral.Numeral.{Numeral}

abbrev pub plus : ℕ
plus = 43

abbrev pub minus : ℕ
minus = 45

abbrev pub negative : List ℕ → Bool
negative [] = false
negative (b ∷ bs) = b == minus

abbrev pub signed : List ℕ → Bool
signed [] = false
signed (b ∷ bs) = b == plus || b == minus

-- what stands after the sign, if there is one
abbrev pub unsigned : List ℕ → List ℕ
unsigned bs = cond (signed bs) (drop 1 bs) bs

-- the number that digits write after the digits of n
abbrev pub value_after : List ℕ → ℕ → ℕ
value_after [] n = n
value_after (b ∷ bs) n = value_after bs (10 * n + (b - 48))

-- a magnitude from 2^64 on is told as 2^64 - 1, which is beyond every limit
abbrev pub told : ℕ → ℕ
told n = min n (2 ^ 64 - 1)

-- what a numeral's digits write: at least one digit, and nothing else
abbrev pub magnitude : List ℕ → Option ℕ
magnitude [] = None
magnitude (b ∷ bs) = cond (all_ascii_digits (b ∷ bs)) (Some (told (value_after (b ∷ bs) 0))) None

abbrev pub numeral : List ℕ → Option Numeral
numeral bs = option_map (λ m. record { negative = negative bs; magnitude = m }) (magnitude (unsigned bs))

-- the number of a numeral
abbrev pub number : Numeral → ℤ
number n = cond n.negative (neg_ℤ (pos n.magnitude)) (pos n.magnitude)

-- that number, if its magnitude is at most the limit
abbrev pub limited : ℕ → Numeral → Option ℤ
limited limit n = cond (nat_le n.magnitude limit) (Some (number n)) None
