use Rattle.std.proofs.Common.{rules}
use Rattle.criteria.specs.States.{view}
use Rattle.criteria.proofs.Comparisons.{comparison_read}
use Rattle.criteria.proofs.reader.Reader.comparison.Goals as goal

pub returns : goal.returns
returns c =
    let start = c.args.self.now in
    let inner = c.measure.new.self in
    let after = c.compared.new.self in
    let left = c.in_ok-first.ensures in
    record {
      answer = comparison_read c.args.left (view start) (view inner) c.in_ok-first.first c.compared.result (view after) left.answer c.compared.ensures.answer;
      balance = search rules;
    }
