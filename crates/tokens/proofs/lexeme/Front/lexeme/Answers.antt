use Rattle.std.proofs.Common.{ap, arith, rules}
use Rattle.tokens.specs.Lexing.{scan}
use Rattle.tokens.proofs.Ends.{class_within}
use Rattle.tokens.proofs.lexeme.Front.lexeme.Goals as goal

pub returns-clause-answer : goal.returns-clause-answer
unfolding scan
returns-clause-answer c = search rules

pub returns-clause-bound : goal.returns-clause-bound
returns-clause-bound c =
    let size = ap (λ s. s.size) c.lexeme_by.ensures in
    omega (arith, class_within c.class_of.result c.args.self.bytes.now c.args.self.some)
