-- What the lexer's answers mean, without the references that they hold. Assumes nothing.
use Rattle.std.specs.Prelude.{ℕ}
use Rattle.tokens.specs.Lexing.{Scan, named, figure}
use Rattle.tokens.specs.Tokens.{Tok, Spot, mark, change, comparator, unary, binary, statistic, prefix, connective, numeral, variable, stray, stop}
use Rattle.tokens.specs.declared.token.Lexeme.{Lexeme}
use Rattle.tokens.specs.declared.token.Token.{Token}
use Rattle.tokens.specs.declared.token.Token.TheVariants as tokens
use Rattle.tokens.specs.declared.words.PrefixSign.TheVariants.{Not}
use Rattle.tokens.specs.declared.words.Word.{Word}
use Rattle.tokens.specs.declared.words.Word.TheVariants as words

abbrev pub spot : Tok → ℕ → Spot
spot t at = record { tok = t; at = at }

abbrev pub spot_of : Token → Spot
spot_of (tokens.Name name at) = spot (named name.now) at
spot_of (tokens.Numeral text at) = spot (figure text.now) at
spot_of (tokens.Variable name at) = spot (variable name.now) at
spot_of (tokens.Punctuation p at) = spot (mark p) at
spot_of (tokens.Comparator c at) = spot (comparator c) at
spot_of (tokens.Connective x at) = spot (connective x) at
spot_of (tokens.Not at) = spot (prefix Not) at
spot_of (tokens.Stray at) = spot stray at
spot_of (tokens.Stop at) = spot stop at

-- a token with its place and its size
pub record Seen : Type 0 where
  pub spot : Spot
  pub size : ℕ

abbrev pub seen : Lexeme → Seen
seen l = record { spot = spot_of l.token; size = l.size }

abbrev pub scanned : Scan → ℕ → Seen
scanned s at = record { spot = spot s.tok at; size = s.size }

abbrev pub tok_of : Word → Tok
tok_of (words.Punctuation p) = mark p
tok_of words.Change = change
tok_of (words.Comparator c) = comparator c
tok_of (words.Unary u) = unary u
tok_of (words.Binary b) = binary b
tok_of (words.Statistic s) = statistic s
tok_of (words.Prefix x) = prefix x
tok_of (words.Connective x) = connective x
tok_of (words.Numeral s n) = numeral s n
tok_of (words.Variable name) = variable name.now
tok_of words.Stray = stray
tok_of words.Stop = stop
