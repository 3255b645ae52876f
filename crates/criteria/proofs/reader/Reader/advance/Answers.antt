use Rattle.std.proofs.Common.{List, ap}
use Rattle.tokens.specs.Tokens.{Spot}
use Rattle.criteria.specs.States.{moved, view}
use Rattle.criteria.proofs.Advancing.{advanced}
use Rattle.criteria.proofs.reader.Reader.advance.Goals as goal

pub returns-clause-after : goal.returns-clause-after
returns-clause-after c =
    ap (λ (s : List Spot). moved (view c.args.self.now) c.args.self.now.brought s)
    (advanced c.args.self.now.token c.next_token-self.result c.args.self.now.lexer c.next_token-self.new.self c.requires c.next_token-self.ensures.answer c.next_token-self.ensures.after c.next_token-self.ensures.text)
