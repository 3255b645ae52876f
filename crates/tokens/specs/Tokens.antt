-- What a token means. Assumes nothing.
use Rattle.std.specs.Prelude.{ℕ, Bool, true, false, List}
use Rattle.parts.specs.declared.kinds.Binary.{Binary}
use Rattle.parts.specs.declared.kinds.Comparator.{Comparator}
use Rattle.parts.specs.declared.kinds.Statistic.{Statistic}
use Rattle.parts.specs.declared.kinds.Unary.{Unary}
use Rattle.tokens.specs.declared.words.ConnectiveSign.{ConnectiveSign}
use Rattle.tokens.specs.declared.words.PrefixSign.{PrefixSign}
use Rattle.tokens.specs.declared.words.Punctuation.{Punctuation}
use Rattle.tokens.specs.declared.words.Sign.{Sign}

pub data Tok : Type 0 where
  mark : Punctuation → Tok
  -- d, the change of a measure
  change : Tok
  comparator : Comparator → Tok
  unary : Unary → Tok
  binary : Binary → Tok
  statistic : Statistic → Tok
  prefix : PrefixSign → Tok
  connective : ConnectiveSign → Tok
  -- its sign and its magnitude
  numeral : Sign → ℕ → Tok
  -- a variable's name, between braces
  variable : List ℕ → Tok
  -- a byte that begins no token, or letters that are no name of the language
  stray : Tok
  -- the end of the text
  stop : Tok

-- a token and the index of its first byte; the end of the text stands at its length
pub record Spot : Type 0 where
  pub tok : Tok
  pub at : ℕ

abbrev pub is_stop : Tok → Bool
is_stop stop = true
is_stop (mark q) = false
is_stop change = false
is_stop (comparator c) = false
is_stop (unary u) = false
is_stop (binary b) = false
is_stop (statistic s) = false
is_stop (prefix x) = false
is_stop (connective x) = false
is_stop (numeral s n) = false
is_stop (variable name) = false
is_stop stray = false
