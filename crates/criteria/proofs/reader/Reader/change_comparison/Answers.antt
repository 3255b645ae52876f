use Rattle.std.proofs.Common.{rules}
use Rattle.std.proofs.lemmas.Result.{err_from_is_err_and}
use Rattle.criteria.specs.States.{view}
use Rattle.criteria.proofs.Comparisons.{change_broken, change_read, change_unmeasured, measured, opened}
use Rattle.criteria.proofs.reader.Reader.change_comparison.Goals as goal

pub returns-in_err-first : goal.returns-in_err-first
returns-in_err-first c =
    let exit = err_from_is_err_and c.from_residual-in_err-first.result c.from_residual-in_err-first.ensures.1 in
    let start = view c.args.self.now in
    let inner = view c.opening.new.self in
    let after = view c.measure.new.self in
    rw (exit.1, exit.2) (record { answer = change_unmeasured c.args.left start inner after after c.in_err-first.field-0.0 (opened c.args.left start (view c.advance.new.self) inner c.advance.ensures.after c.in_ok-opening.ensures.answer) c.in_err-first.ensures.answer; balance = tt })

pub returns-in_err-punctuation : goal.returns-in_err-punctuation
returns-in_err-punctuation c =
    let exit = err_from_is_err_and c.from_residual-in_err-punctuation.result c.from_residual-in_err-punctuation.ensures.1 in
    let start = view c.args.self.now in
    let inner = view c.measure.new.self in
    let after = view c.punctuation.new.self in
    let begun = measured c.args.left start (view c.opening.new.self) inner c.in_ok-first.first (opened c.args.left start (view c.advance.new.self) (view c.opening.new.self) c.advance.ensures.after c.in_ok-opening.ensures.answer) c.in_ok-first.ensures.answer in
    rw (exit.1, exit.2) (record { answer = change_broken c.args.left start inner after after c.in_ok-first.first c.in_err-punctuation.field-0.0 begun c.in_err-punctuation.ensures.answer; balance = tt })

pub returns : goal.returns
returns c =
    let start = c.args.self.now in
    let opens = c.opening.new.self in
    let inner = c.measure.new.self in
    let closed = c.punctuation.new.self in
    let after = c.compared.new.self in
    let begun = measured c.args.left (view start) (view opens) (view inner) c.in_ok-first.first (opened c.args.left (view start) (view c.advance.new.self) (view opens) c.advance.ensures.after c.in_ok-opening.ensures.answer) c.in_ok-first.ensures.answer in
    record {
      answer = change_read c.args.left (view start) (view inner) (view closed) c.in_ok-first.first c.compared.result (view after) begun c.in_ok-punctuation.ensures.answer c.compared.ensures.answer;
      balance = search rules;
    }
