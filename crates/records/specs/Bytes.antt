-- The bytes that RFC 4180 names. Assumes nothing.
use Rattle.std.specs.Prelude.{ℕ, Bool, ◌||◌, ◌==◌}
use Rattle.std.specs.Int.{is_in_range}

-- comma, quote, carriage return and line feed
abbrev pub comma : ℕ
comma = 44

abbrev pub quote : ℕ
quote = 34

abbrev pub cr : ℕ
cr = 13

abbrev pub lf : ℕ
lf = 10

-- TEXTDATA: 20-21, 23-2B and 2D-7E, in hexadecimal
abbrev pub text_data : ℕ → Bool
text_data b = is_in_range 0x20 0x21 b || is_in_range 0x23 0x2B b || is_in_range 0x2D 0x7E b

-- what may stand between quotes, but for the quote itself, which is doubled there
abbrev pub quotable : ℕ → Bool
quotable b = text_data b || b == comma || b == cr || b == lf
