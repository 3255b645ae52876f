use Rattle.std.proofs.Common.{rules}
use Rattle.tokens.specs.Lexing.{named}
use Rattle.tokens.proofs.naming.word_named.Goals as goal

pub returns-in-len1 : goal.returns-in-len1
unfolding named
returns-in-len1 c = search rules

pub returns-in_default : goal.returns-in_default
unfolding named
returns-in_default c = search rules
