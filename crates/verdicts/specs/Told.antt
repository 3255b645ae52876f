-- How a verdict is told: its byte and its word. Assumes nothing.
use Rattle.std.specs.Prelude.{ℕ, List, Some, None, codes, Option}
use Rattle.verdicts.specs.declared.verdict.Verdict.{Verdict}
use Rattle.verdicts.specs.declared.verdict.Verdict.TheVariants.{False, True, Undecided}

-- the byte of a part: that of its verdict, or the mark of a number, which has none
abbrev pub byte_of : Option Verdict → ℕ
byte_of (Some False) = 0
byte_of (Some True) = 1
byte_of (Some Undecided) = 2
byte_of None = 3

abbrev pub word_of : Verdict → List ℕ
word_of False = codes "false"
word_of True = codes "true"
word_of Undecided = codes "undecided"
