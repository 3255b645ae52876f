use Rattle.std.proofs.Common.{rules}
use Rattle.tokens.specs.Lexing.{figure}
use Rattle.tokens.proofs.naming.word_figured.Goals as goal

pub returns : goal.returns
unfolding figure
returns c = search rules
