-- What the bytes of a criterion are, read for the header of a run file and a magnitude: a formula, or the first fault. Assumes nothing.
use Rattle.std.specs.Prelude.{◌≡◌, ℕ, Bool, cond, ◌&&◌, List, length, ℤ, pos, negsuc, Some, None, Ok, Err, Option, Result, nat_le}
use Rattle.std.specs.Int.{is_in_range}
use Rattle.std.specs.List.{AllByRecursion}
use Rattle.records.specs.Cursor.{start}
use Rattle.records.specs.Headers.{column_from, names_at}
use Rattle.records.specs.declared.fault.RecordFault.{RecordFault}
use Rattle.parts.specs.Order.{parts_of}
use Rattle.tokens.specs.Lexing.{spots}
use Rattle.tokens.specs.Tokens.{Spot}
use Rattle.grammar.specs.Laws.{Exact, IsToken, ended}
use Rattle.grammar.specs.Meanings.{Columns, property_of}
use Rattle.grammar.specs.Reading.{Outcome, got, fault, reading}
use Rattle.grammar.specs.Rules.{rules_for}
use Rattle.grammar.specs.Trees.{PropertyTree}
use Rattle.criteria.specs.Refusals.{rule_with}
use Rattle.criteria.specs.Told.{Written, written}
use Rattle.criteria.specs.declared.fault.Breach.{Breach}
use Rattle.criteria.specs.declared.fault.CriterionFault.{CriterionFault}
use Rattle.criteria.specs.declared.fault.CriterionFault.TheVariants.{Length, Magnitude, Header, Text}
use Rattle.criteria.specs.declared.formula.Formula.{Formula}

-- the column of a name
abbrev pub columns_in : List (List ℕ) → Columns
columns_in names name = column_from names name 0

abbrev pub by_outcome : List (List ℕ) → ℕ → Outcome PropertyTree → Result Written CriterionFault
by_outcome names largest (got p n s) = Ok (record { parts = parts_of (property_of (columns_in names) p); width = length names; magnitude = largest })
by_outcome names largest (fault number place s) = Err (Text (record { rule = rule_with number; place = place }))

abbrev pub by_header : List ℕ → ℕ → Result (List (List ℕ)) RecordFault → Result Written CriterionFault
by_header text largest (Err f) = Err (Header f)
by_header text largest (Ok names) = by_outcome names largest (reading (rules_for (columns_in names) largest) (spots text))

-- the text has 1 to 4,096 bytes, and the run file at most 65,536
abbrev pub lawful_length : List ℕ → List ℕ → Bool
lawful_length text file = is_in_range 1 4096 (length text) && nat_le (length file) 65536

-- a magnitude of 1 to 10^9
abbrev pub lawful_magnitude : ℤ → Option ℕ
lawful_magnitude (pos n) = cond (is_in_range 1 1000000000 n) (Some n) None
lawful_magnitude (negsuc n) = None

abbrev pub by_magnitude : List ℕ → List ℕ → Option ℕ → Result Written CriterionFault
by_magnitude text file None = Err Magnitude
by_magnitude text file (Some largest) = by_header text largest (names_at file start)

abbrev pub criterion : List ℕ → List ℕ → ℤ → Result Written CriterionFault
criterion text file magnitude = cond (lawful_length text file) (by_magnitude text file (lawful_magnitude magnitude)) (Err Length)

-- a formula that was read, or the rule that its text breaks
abbrev pub told_formula : Result Formula Breach → Result Written CriterionFault
told_formula (Ok f) = Ok (written f)
told_formula (Err b) = Err (Text b)

-- the answer of a reading, and the formula after it
abbrev pub answer : Result Written CriterionFault → Result Unit CriterionFault
answer (Ok f) = Ok tt
answer (Err e) = Err e

abbrev pub after : Result Written CriterionFault → Written → Written
after (Ok f) before = f
after (Err e) before = before

-- The law of a text, for every header and magnitude: its tokens are tokens and then its end, and the reading of them is exact.
pub record ReadExactly (text : List ℕ) (columns : Columns) (largest : ℕ) : Type 0 where
  pub tokens : List Spot
  pub split : spots text ≡ ended tokens (length text)
  pub all : AllByRecursion (λ t. IsToken t.tok) tokens
  pub exact : Exact (rules_for columns largest) tokens (length text)
