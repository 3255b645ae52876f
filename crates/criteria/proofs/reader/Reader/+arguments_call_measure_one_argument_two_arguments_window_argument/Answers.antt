use Rattle.std.proofs.Common.{ℕ, Ok, Option, sym, refl, ◌∙◌, subst, rules}
use Rattle.std.proofs.lemmas.Result.{err_from_is_err_and}
use Rattle.parts.specs.declared.kinds.Part.TheVariants as part
use Rattle.tokens.specs.Tokens as tok
use Rattle.tokens.specs.Told.{tok_of}
use Rattle.criteria.specs.States.{Follows, view}
use Rattle.criteria.specs.Ways.{arguments_way, call_way, is_inside, numeral_way, variable_way}
use Rattle.criteria.specs.declared.reader.operands.Function.{Function}
use Rattle.criteria.specs.declared.reader.operands.Function.TheVariants as function
use Rattle.criteria.proofs.Measures.{call_broken, call_read, ending_broken, no_measure, one_broken, one_read, opened, over_broken, over_read, read_by, refused_by, two_broken_comma, two_broken_first, two_broken_second, two_read}
use Rattle.criteria.proofs.Writing.{counted}
use Rattle.criteria.proofs.reader.Reader.+arguments_call_measure_one_argument_two_arguments_window_argument.Goals as goal

pub arguments-returns-in-Statistic : goal.arguments-returns-in-Statistic
arguments-returns-in-Statistic t c = record {
  answer =
      subst (λ (f : Function). Follows (arguments_way c.args.self.now.scope.now f c.args.left (is_inside c.args.context)) (view c.args.self.now) c.window_argument.result (view c.window_argument.new.self))
      (sym c.in-Statistic.is) (c.window_argument.ensures.answer (is_inside c.args.context));
  balance = c.window_argument.ensures.balance;
}

pub call-returns-in_err-call : goal.call-returns-in_err-call
call-returns-in_err-call t c =
    let exit = err_from_is_err_and c.from_residual-in_err-call.result c.from_residual-in_err-call.ensures.1 in
    let after = view c.arguments.new.self in
    rw (exit.1, exit.2) (record {
      answer = call_broken c.args.function c.args.left (is_inside c.args.context) (view c.args.self.now) (view c.opening.new.self) after after c.in_err-call.field-0.0
          (opened c.args.function c.args.left (is_inside c.args.context) (view c.args.self.now) (view c.bring.new.self) (view c.advance.new.self) (view c.opening.new.self) c.in_ok-bring.ensures.answer c.advance.ensures.after c.in_ok-opening.ensures.answer)
          c.in_err-call.ensures.answer;
      balance = tt;
    })

pub call-returns-in_err-bound : goal.call-returns-in_err-bound
call-returns-in_err-bound t c =
    let exit = err_from_is_err_and c.from_residual-in_err-bound.result c.from_residual-in_err-bound.ensures.1 in
    let after = view c.ending.new.self in
    rw (exit.1, exit.2) (record {
      answer = ending_broken c.args.function c.args.left (is_inside c.args.context) (view c.args.self.now) (view c.opening.new.self) (view c.arguments.new.self) after after c.in_ok-call.call c.at-name.result c.in_err-bound.field-0.0
          (opened c.args.function c.args.left (is_inside c.args.context) (view c.args.self.now) (view c.bring.new.self) (view c.advance.new.self) (view c.opening.new.self) c.in_ok-bring.ensures.answer c.advance.ensures.after c.in_ok-opening.ensures.answer)
          c.at-name.ensures c.in_ok-call.ensures.answer c.in_err-bound.ensures.answer;
      balance = tt;
    })

pub call-returns : goal.call-returns
call-returns t c =
    let f = c.args.function in
    let left = c.args.left in
    let inside = (is_inside c.args.context) in
    let start = view c.args.self.now in
    let inner = view c.opening.new.self in
    let begun = opened f left inside start (view c.bring.new.self) (view c.advance.new.self) inner c.in_ok-bring.ensures.answer c.advance.ensures.after c.in_ok-opening.ensures.answer in
    record {
      answer =
          call_read f left inside start inner (view c.arguments.new.self) (view c.ending.new.self) (view c.write-at.new.self) c.in_ok-call.call c.at-name.result c.in_ok-bound.bound c.write-at.result
          begun c.at-name.ensures c.in_ok-call.ensures.answer c.in_ok-bound.ensures.answer c.write-at.ensures.after (c.write-at.ensures.answer ∙ sym (counted c.ending.new.self));
      balance = search rules;
    }

pub measure-returns-in-Numeral : goal.measure-returns-in-Numeral
measure-returns-in-Numeral t c = record {
  answer = read_by c.args.self.now.scope.now c.args.left (is_inside c.args.context) (numeral_way c.args.self.now.scope.now c.in-Numeral.sign c.in-Numeral.magnitude).read (view c.args.self.now) c.numeral.result (view c.numeral.new.self) (tok.numeral c.in-Numeral.sign c.in-Numeral.magnitude) c.in-Numeral.ensures refl c.numeral.ensures.answer;
  balance = c.numeral.ensures.balance;
}

pub measure-returns-in-Variable : goal.measure-returns-in-Variable
measure-returns-in-Variable t c = record {
  answer = read_by c.args.self.now.scope.now c.args.left (is_inside c.args.context) (variable_way c.args.self.now.scope.now c.in-Variable.name.now).read (view c.args.self.now) c.variable.result (view c.variable.new.self) (tok.variable c.in-Variable.name.now) c.in-Variable.ensures refl c.variable.ensures.answer;
  balance = c.variable.ensures.balance;
}

pub measure-returns-in-Unary : goal.measure-returns-in-Unary
measure-returns-in-Unary t c = record {
  answer =
      read_by c.args.self.now.scope.now c.args.left (is_inside c.args.context) (call_way c.args.self.now.scope.now (function.Unary c.in-Unary.u) c.args.left (is_inside c.args.context)).read
      (view c.args.self.now) c.call.result (view c.call.new.self) (tok.unary c.in-Unary.u) c.in-Unary.ensures refl c.call.ensures.answer;
  balance = c.call.ensures.balance;
}

pub measure-returns-in-Binary : goal.measure-returns-in-Binary
measure-returns-in-Binary t c = record {
  answer =
      read_by c.args.self.now.scope.now c.args.left (is_inside c.args.context) (call_way c.args.self.now.scope.now (function.Binary c.in-Binary.b) c.args.left (is_inside c.args.context)).read
      (view c.args.self.now) c.call-in-Binary.result (view c.call-in-Binary.new.self) (tok.binary c.in-Binary.b) c.in-Binary.ensures refl c.call-in-Binary.ensures.answer;
  balance = c.call-in-Binary.ensures.balance;
}

pub measure-returns-in-Window : goal.measure-returns-in-Window
measure-returns-in-Window t c = record {
  answer = refused_by c.args.self.now.scope.now c.args.left (is_inside c.args.context) (view c.args.self.now) (tok.statistic c.in-Statistic.s) c.breach.result (view c.args.self.now) c.in-Statistic.ensures (rw c.in-Window.is refl) c.breach.ensures;
  balance = tt;
}

pub measure-returns-in-Formula : goal.measure-returns-in-Formula
measure-returns-in-Formula t c = record {
  answer =
      read_by c.args.self.now.scope.now c.args.left (is_inside c.args.context) (call_way c.args.self.now.scope.now (function.Statistic c.in-Statistic.s) c.args.left (is_inside c.args.context)).read
      (view c.args.self.now) c.call-in-Formula.result (view c.call-in-Formula.new.self) (tok.statistic c.in-Statistic.s) c.in-Statistic.ensures (rw c.in-Formula.is refl) c.call-in-Formula.ensures.answer;
  balance = c.call-in-Formula.ensures.balance;
}

pub measure-returns-in_default : goal.measure-returns-in_default
measure-returns-in_default t c = record {
  answer =
      refused_by c.args.self.now.scope.now c.args.left (is_inside c.args.context) (view c.args.self.now) (tok_of c.word.result) c.breach-in_default.result (view c.args.self.now) c.word.ensures
      (no_measure c.args.self.now.scope.now c.args.left (is_inside c.args.context) (view c.args.self.now) c.word.result c.in_default.not-Numeral c.in_default.not-Variable c.in_default.not-Unary c.in_default.not-Binary c.in_default.not-Statistic)
      c.breach-in_default.ensures;
  balance = tt;
}

pub one_argument-returns-in_err-argument : goal.one_argument-returns-in_err-argument
one_argument-returns-in_err-argument t c =
    let exit = err_from_is_err_and c.from_residual.result c.from_residual.ensures.1 in
    let after = view c.measure.new.self in
    rw (exit.1, exit.2) (record { answer = one_broken c.args.self.now.scope.now c.args.u c.args.left (is_inside c.args.context) (view c.args.self.now) after after _ c.in_err-argument.ensures.answer; balance = tt })

pub one_argument-returns : goal.one_argument-returns
one_argument-returns t c =
    let o = c.in_ok-argument.argument in
    record {
      answer =
          subst (λ (k : Option ℕ). Follows (arguments_way c.args.self.now.scope.now (function.Unary c.args.u) c.args.left (is_inside c.args.context)) (view c.args.self.now) (Ok (record { part = part.Unary c.args.u; bound = k })) (view c.measure.new.self)) (sym c.bound.ensures)
          (one_read c.args.self.now.scope.now c.args.u c.args.left (is_inside c.args.context) (view c.args.self.now) (view c.measure.new.self) o c.in_ok-argument.ensures.answer);
      balance = c.in_ok-argument.ensures.balance;
    }

pub two_arguments-returns-in_err-first : goal.two_arguments-returns-in_err-first
two_arguments-returns-in_err-first t c =
    let exit = err_from_is_err_and c.from_residual.result c.from_residual.ensures.1 in
    let after = view c.measure.new.self in
    rw (exit.1, exit.2) (record { answer = two_broken_first (view c.args.self.now) c.args.b c.args.left (is_inside c.args.context) after after c.in_err-first.field-0.0 c.in_err-first.ensures.answer; balance = tt })

pub two_arguments-returns-in_err-punctuation : goal.two_arguments-returns-in_err-punctuation
two_arguments-returns-in_err-punctuation t c =
    let exit = err_from_is_err_and c.from_residual-in_err-punctuation.result c.from_residual-in_err-punctuation.ensures.1 in
    let after = view c.punctuation.new.self in
    rw (exit.1, exit.2) (record {
      answer = two_broken_comma (view c.args.self.now) c.args.b c.args.left (is_inside c.args.context) (view c.measure.new.self) after after c.in_ok-first.first c.in_err-punctuation.field-0.0 c.in_ok-first.ensures.answer c.in_err-punctuation.ensures.answer;
      balance = tt;
    })

pub two_arguments-returns-in_err-second : goal.two_arguments-returns-in_err-second
two_arguments-returns-in_err-second t c =
    let exit = err_from_is_err_and c.from_residual-in_err-second.result c.from_residual-in_err-second.ensures.1 in
    let after = view c.measure-2.new.self in
    rw (exit.1, exit.2) (record {
      answer = two_broken_second (view c.args.self.now) c.args.b c.args.left (is_inside c.args.context) (view c.measure.new.self) (view c.punctuation.new.self) after after c.in_ok-first.first c.in_err-second.field-0.0 c.in_ok-first.ensures.answer c.in_ok-punctuation.ensures.answer c.in_err-second.ensures.answer;
      balance = tt;
    })

pub two_arguments-returns : goal.two_arguments-returns
two_arguments-returns t c =
    let first = c.in_ok-first.first in
    record {
      answer =
          subst (λ (k : Option ℕ). Follows (arguments_way c.args.self.now.scope.now (function.Binary c.args.b) c.args.left (is_inside c.args.context)) (view c.args.self.now) (Ok (record { part = part.Binary c.args.b first.at; bound = k })) (view c.measure-2.new.self)) (sym c.bound.ensures)
          (two_read (view c.args.self.now) c.args.b c.args.left (is_inside c.args.context) (view c.measure.new.self) (view c.punctuation.new.self) (view c.measure-2.new.self) first c.in_ok-second.second c.in_ok-first.ensures.answer c.in_ok-punctuation.ensures.answer c.in_ok-second.ensures.answer);
      balance = search rules;
    }

pub window_argument-returns-in_err-argument-clause-answer : goal.window_argument-returns-in_err-argument-clause-answer
window_argument-returns-in_err-argument-clause-answer t c =
    let exit = err_from_is_err_and c.from_residual-in_err-argument.result c.from_residual-in_err-argument.ensures.1 in
    let after = view c.measure.new.self in
    rw (exit.1, exit.2) (λ inside. over_broken (view c.args.self.now) c.args.s c.args.left inside (view c.window.new.self) after after c.in_ok-window.window c.in_err-argument.field-0.0 c.in_ok-window.ensures.answer c.in_err-argument.ensures.answer)

pub window_argument-returns-clause-answer : goal.window_argument-returns-clause-answer
window_argument-returns-clause-answer t c = λ inside.
    subst (λ (k : Option ℕ). Follows (arguments_way c.args.self.now.scope.now (function.Statistic c.args.s) c.args.left inside) (view c.args.self.now) (Ok (record { part = part.Over c.args.s c.in_ok-window.window; bound = k })) (view c.measure.new.self)) (sym c.bound.ensures)
    (over_read (view c.args.self.now) c.args.s c.args.left inside (view c.window.new.self) (view c.measure.new.self) c.in_ok-window.window c.in_ok-argument.argument c.in_ok-window.ensures.answer c.in_ok-argument.ensures.answer)
