use Rattle.std.proofs.Common.{arith}
use Rattle.criteria.proofs.Writing.{written}
use Rattle.criteria.proofs.reader.Reader.write.Goals as goal

pub returns-clause-after : goal.returns-clause-after
returns-clause-after c = written c.args.self.now.scope.now c.args.self.now.brought _ c.args.self.now.parts c.args.self.now.count c.args.part (omega arith)
