use Rattle.std.proofs.Common.{arith}
use Rattle.stores.proofs.LawfulStates.{within_more}
use Rattle.changes.specs.Encoding.{change_largest}
use Rattle.changes.proofs.layout.ChangeLayout.update.Goals as goal

pub fill-requires-clause-values : goal.fill-requires-clause-values
fill-requires-clause-values c = within_more change_largest 2147483647 c.args.values.now (omega arith) c.requires.values
