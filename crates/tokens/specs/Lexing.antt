-- How a text is cut into tokens: spaces are passed over, and each token is told from its first byte. Assumes nothing.
use Rattle.std.specs.Prelude.{ℕ, zero, suc, ◌+◌, ◌-◌, Bool, cond, ◌&&◌, List, [], ◌∷◌, length, take, drop, Some, None, codes, Option, ◌==◌, nat_lt, slice_index}
use Rattle.std.specs.Char.{is_ascii_alphabetic, is_ascii_digit}
use Rattle.std.specs.Int.{is_in_range}
use Rattle.std.specs.List.{prefix_len}
use Rattle.std.specs.Str.{bytes_eq}
use Rattle.records.specs.Numerals as numerals
use Rattle.records.specs.declared.numeral.Numeral.{Numeral}
use Rattle.parts.specs.declared.kinds.Binary.TheVariants.{Add, Subtract, Multiply}
use Rattle.parts.specs.declared.kinds.Comparator.TheVariants.{Less, AtMost, Equal, AtLeast, Greater}
use Rattle.parts.specs.declared.kinds.Statistic.TheVariants.{Min, Max, Sum, Count}
use Rattle.parts.specs.declared.kinds.Unary.TheVariants as unaries
use Rattle.tokens.specs.Classes.{class_of, is_printable, is_space}
use Rattle.tokens.specs.Tokens.{Tok, Spot, is_stop, mark, change, comparator, unary, binary, statistic, prefix, connective, numeral, variable, stray, stop}
use Rattle.tokens.specs.declared.classes.Class.{Class}
use Rattle.tokens.specs.declared.classes.Class.TheVariants as class
use Rattle.tokens.specs.declared.words.ConnectiveSign.{ConnectiveSign}
use Rattle.tokens.specs.declared.words.ConnectiveSign.TheVariants as connectives
use Rattle.tokens.specs.declared.words.PrefixSign.TheVariants as prefixes
use Rattle.tokens.specs.declared.words.Punctuation.TheVariants.{Open, Close, OpenWindow, CloseWindow, Comma}
use Rattle.tokens.specs.declared.words.Sign.{Sign}
use Rattle.tokens.specs.declared.words.Sign.TheVariants.{Unsigned, Plus, Minus}

-- the names of measures
abbrev pub measure_named : List ℕ → Tok
measure_named name =
    cond (bytes_eq name (codes "abs")) (unary unaries.Abs)
    (cond (bytes_eq name (codes "sign")) (unary unaries.Sign)
    (cond (bytes_eq name (codes "add")) (binary Add)
    (cond (bytes_eq name (codes "subtract")) (binary Subtract)
    (cond (bytes_eq name (codes "multiply")) (binary Multiply)
    (cond (bytes_eq name (codes "min")) (statistic Min)
    (cond (bytes_eq name (codes "max")) (statistic Max)
    (cond (bytes_eq name (codes "sum")) (statistic Sum)
    (cond (bytes_eq name (codes "count")) (statistic Count)
    stray))))))))

-- the names of one letter
abbrev pub letter_named : ℕ → Tok
letter_named b =
    cond (b == 0x64) change
    (cond (b == 0x55) (connective connectives.Until)
    (cond (b == 0x46) (prefix prefixes.Eventually)
    (cond (b == 0x47) (prefix prefixes.Always)
    (cond (b == 0x58) (prefix prefixes.Next)
    stray))))

-- what a longest run of letters means
unfoldable pub named : List ℕ → Tok
named name = cond (length name == 1) (letter_named (slice_index name 0)) (measure_named name)

abbrev pub sign_of : ℕ → Sign
sign_of b = cond (b == numerals.plus) Plus (cond (b == numerals.minus) Minus Unsigned)

abbrev pub magnitude_of : Option Numeral → ℕ
magnitude_of None = 0
magnitude_of (Some n) = n.magnitude

-- what a sign and digits, or digits alone, mean
unfoldable pub figure : List ℕ → Tok
figure bs = numeral (sign_of (slice_index bs 0)) (magnitude_of (numerals.numeral bs))

-- a token that begins some bytes, and how many of them it has
pub record Scan : Type 0 where
  pub tok : Tok
  pub size : ℕ

abbrev pub single : Tok → Scan
single t = record { tok = t; size = 1 }

-- how many bytes of a kind stand in front
abbrev pub letters : List ℕ → ℕ
letters bs = prefix_len is_ascii_alphabetic bs

abbrev pub digits : List ℕ → ℕ
digits bs = prefix_len is_ascii_digit bs

abbrev pub printables : List ℕ → ℕ
printables bs = prefix_len is_printable bs

abbrev pub name_scan : List ℕ → Scan
name_scan bs = record { tok = named (take (letters bs) bs); size = letters bs }

-- a numeral of so many bytes
abbrev pub figure_scan : ℕ → List ℕ → Scan
figure_scan size bs = record { tok = figure (take size bs); size = size }

abbrev pub digits_scan : List ℕ → Scan
digits_scan bs = figure_scan (digits bs) bs

-- a sign begins a numeral only if a digit follows
abbrev pub sign_scan : List ℕ → Scan
sign_scan bs = cond (digits (drop 1 bs) == 0) (single stray) (figure_scan (1 + digits (drop 1 bs)) bs)

-- the name of a variable has 1 to 64 bytes, and a brace closes it
abbrev pub closes : List ℕ → Bool
closes bs = is_in_range 1 64 (printables (drop 1 bs)) && slice_index bs (1 + printables (drop 1 bs)) == 0x7D

abbrev pub variable_scan : List ℕ → Scan
variable_scan bs = cond (closes bs) (record { tok = variable (take (printables (drop 1 bs)) (drop 1 bs)); size = 2 + printables (drop 1 bs) }) (single stray)

-- a comparator, with = behind it or without
abbrev pub comparator_scan : Tok → Tok → List ℕ → Scan
comparator_scan with without bs = cond (slice_index bs 1 == 0x3D) (record { tok = with; size = 2 }) (single without)

-- ∧ ∨ ⇒ ⇔ in UTF-8, by their second and third byte
abbrev pub wide_sign : ℕ → ℕ → Option ConnectiveSign
wide_sign b c =
    cond (b == 0x88 && c == 0xA7) (Some connectives.And)
    (cond (b == 0x88 && c == 0xA8) (Some connectives.Or)
    (cond (b == 0x87 && c == 0x92) (Some connectives.Implies)
    (cond (b == 0x87 && c == 0x94) (Some connectives.Iff)
    None)))

abbrev pub wide_by : Option ConnectiveSign → Scan
wide_by None = single stray
wide_by (Some x) = record { tok = connective x; size = 3 }

abbrev pub wide_scan : List ℕ → Scan
wide_scan bs = wide_by (wide_sign (slice_index bs 1) (slice_index bs 2))

abbrev pub scan_by : Class → List ℕ → Scan
scan_by class.Space bs = single stray
scan_by class.Letter bs = name_scan bs
scan_by class.Digit bs = digits_scan bs
scan_by class.Sign bs = sign_scan bs
scan_by class.Brace bs = variable_scan bs
scan_by class.Open bs = single (mark Open)
scan_by class.Close bs = single (mark Close)
scan_by class.OpenWindow bs = single (mark OpenWindow)
scan_by class.CloseWindow bs = single (mark CloseWindow)
scan_by class.Comma bs = single (mark Comma)
scan_by class.Tilde bs = single (prefix prefixes.Not)
scan_by class.Less bs = comparator_scan (comparator AtMost) (comparator Less) bs
scan_by class.Equal bs = single (comparator Equal)
scan_by class.Greater bs = comparator_scan (comparator AtLeast) (comparator Greater) bs
scan_by class.Wide bs = wide_scan bs
scan_by class.Other bs = single stray

unfoldable pub scan : List ℕ → Scan
scan bs = scan_by (class_of (slice_index bs 0)) bs

-- where the next token begins, from a place on: spaces are passed over
abbrev pub start : List ℕ → ℕ → ℕ
start text at = at + prefix_len is_space (drop at text)

-- the next token from a place on, and where it ends; behind the last one the text ends
abbrev pub spot_at : List ℕ → ℕ → Spot
spot_at text at = cond (nat_lt (start text at) (length text)) (record { tok = (scan (drop (start text at) text)).tok; at = start text at }) (record { tok = stop; at = start text at })

abbrev pub end_at : List ℕ → ℕ → ℕ
end_at text at = cond (nat_lt (start text at) (length text)) (start text at + (scan (drop (start text at) text)).size) (start text at)

-- the tokens from a place on, at most so many; the end of the text is the last
unfoldable pub spots_within : ℕ → List ℕ → ℕ → List Spot
spots_within zero text at = []
spots_within (suc most) text at = spot_at text at ∷ cond (is_stop (spot_at text at).tok) [] (spots_within most text (end_at text at))

-- every token but the end has a byte at least
abbrev pub spots_from : List ℕ → ℕ → List Spot
spots_from text at = spots_within (suc (length text - at)) text at

-- the tokens of a text
abbrev pub spots : List ℕ → List Spot
spots text = spots_from text 0
