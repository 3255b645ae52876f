use Rattle.std.proofs.Common.{sym, ◌∙◌}
use Rattle.std.proofs.lemmas.Result.{err_from_is_err_and}
use Rattle.criteria.specs.States.{view}
use Rattle.criteria.proofs.Comparisons.{begun, compared_broken, compared_read}
use Rattle.criteria.proofs.Writing.{counted}
use Rattle.criteria.proofs.reader.Reader.compared.Goals as goal

pub returns-in_err-measure-clause-answer : goal.returns-in_err-measure-clause-answer
returns-in_err-measure-clause-answer c =
    let exit = err_from_is_err_and c.from_residual-in_err-measure.result c.from_residual-in_err-measure.ensures.1 in
    let start = view c.args.self.now in
    let before = view c.advance.new.self in
    let after = view c.measure.new.self in
    rw (exit.1, exit.2) (λ m.
    compared_broken c.args.left c.args.quantity m c.args.left_at c.in-Comparator.comparator start before after after c.in_err-measure.field-0.0
    (begun c.args.left c.args.quantity m c.args.left_at c.in-Comparator.comparator start (view c.bring.new.self) before c.in-Comparator.ensures c.in_ok-bring.ensures.answer c.advance.ensures.after)
    c.in_err-measure.ensures.answer)

pub returns-clause-answer : goal.returns-clause-answer
returns-clause-answer c = λ m.
    let start = view c.args.self.now in
    let before = c.measure.new.self in
    compared_read c.args.left c.args.quantity m c.args.left_at c.in-Comparator.comparator start (view c.advance.new.self) (view before) (view c.write.new.self) c.in_ok-measure.field-0 c.write.result
    (begun c.args.left c.args.quantity m c.args.left_at c.in-Comparator.comparator start (view c.bring.new.self) (view c.advance.new.self) c.in-Comparator.ensures c.in_ok-bring.ensures.answer c.advance.ensures.after)
    c.in_ok-measure.ensures.answer c.write.ensures.after (c.write.ensures.answer ∙ sym (counted before))
