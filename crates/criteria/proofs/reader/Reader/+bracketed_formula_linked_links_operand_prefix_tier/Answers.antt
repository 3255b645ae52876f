use Rattle.std.proofs.Common.{sym, refl, ◌∙◌, rules}
use Rattle.std.proofs.lemmas.Result.{err_from_is_err_and}
use Rattle.parts.specs.declared.kinds.Comparator.TheVariants.{Equal}
use Rattle.parts.specs.declared.kinds.Quantity.TheVariants.{Value}
use Rattle.tokens.specs.declared.words.Sign.TheVariants.{Unsigned}
use Rattle.tokens.specs.Told.{tok_of}
use Rattle.tokens.specs.Tokens as tok
use Rattle.grammar.specs.Trees as tree
use Rattle.criteria.specs.States.{view}
use Rattle.criteria.specs.Ways.{bracketed_way, change_comparison_way, comparison_way, prefixed_way}
use Rattle.criteria.proofs.Formulas.{bracket_broken_close, bracket_broken_formula, bracket_read, joins, led, linked_broken, linked_read, operand_by, plain_operand, prefix_broken, prefix_read}
use Rattle.criteria.proofs.Links.{link_forward, reached_all, reached_broken, reached_more, tier_broken, tier_operand, tier_read}
use Rattle.criteria.proofs.Writing.{counted}
use Rattle.criteria.proofs.reader.Reader.+bracketed_formula_linked_links_operand_prefix_tier.Goals as goal

pub bracketed-returns-in_err-at : goal.bracketed-returns-in_err-at
bracketed-returns-in_err-at t c =
    let exit = err_from_is_err_and c.from_residual-in_err-at.result c.from_residual-in_err-at.ensures.1 in
    let after = view c.formula.new.self in
    rw (exit.1, exit.2) (record { answer = bracket_broken_formula c.args.left (view c.args.self.now) (view c.opening.new.self) after after c.in_err-at.field-0.0 c.in_ok-opening.ensures.answer c.in_err-at.ensures.answer; balance = tt })

pub bracketed-returns-in_err-punctuation : goal.bracketed-returns-in_err-punctuation
bracketed-returns-in_err-punctuation t c =
    let exit = err_from_is_err_and c.from_residual-in_err-punctuation.result c.from_residual-in_err-punctuation.ensures.1 in
    let after = view c.punctuation.new.self in
    rw (exit.1, exit.2) (record {
      answer = bracket_broken_close c.args.left (view c.args.self.now) (view c.opening.new.self) (view c.formula.new.self) after after c.in_ok-at.at c.in_err-punctuation.field-0.0 c.in_ok-opening.ensures.answer c.in_ok-at.ensures.answer c.in_err-punctuation.ensures.answer;
      balance = tt;
    })

pub bracketed-returns : goal.bracketed-returns
bracketed-returns t c =
    let start = c.args.self.now in
    let opens = c.opening.new.self in
    let inner = c.formula.new.self in
    let after = c.punctuation.new.self in
    record {
      answer = bracket_read c.args.left (view start) (view opens) (view inner) (view after) c.in_ok-at.at c.in_ok-opening.ensures.answer c.in_ok-at.ensures.answer c.in_ok-punctuation.ensures.answer;
      balance = search rules;
    }

pub linked-returns-in_err-tier-clause-answer : goal.linked-returns-in_err-tier-clause-answer
linked-returns-in_err-tier-clause-answer t c =
    let exit = err_from_is_err_and c.from_residual-in_err-tier.result c.from_residual-in_err-tier.ensures.1 in
    let after = view c.tier.new.self in
    let linking = view c.link.new.self in
    let begun = joins c.args.left c.args.level c.args.sign (view c.args.self.now) (view c.bring.new.self) (view c.advance.new.self) linking c.in_ok-connective.connective c.in_ok-bring.ensures.answer c.advance.ensures.after c.in_ok-connective.ensures.answer in
    rw (exit.1, exit.2) (λ p. linked_broken c.args.left c.args.level c.args.sign (view c.args.self.now) linking after after c.in_ok-connective.connective c.in_err-tier.field-0.0 c.args.left_at p begun c.in_err-tier.ensures.answer)

pub linked-returns-clause-answer : goal.linked-returns-clause-answer
linked-returns-clause-answer t c = λ p.
    let start = view c.args.self.now in
    let links = view c.link.new.self in
    let before = c.tier.new.self in
    let begun = joins c.args.left c.args.level c.args.sign start (view c.bring.new.self) (view c.advance.new.self) links c.in_ok-connective.connective c.in_ok-bring.ensures.answer c.advance.ensures.after c.in_ok-connective.ensures.answer in
    linked_read c.args.left c.args.level c.args.sign start links (view before) (view c.write.new.self) c.in_ok-connective.connective c.in_ok-tier.field-0 c.write.result c.args.left_at p begun c.in_ok-tier.ensures.answer c.write.ensures.after (c.write.ensures.answer ∙ sym (counted before))

pub links-loop-sign-preserved : goal.links-loop-sign-preserved
links-loop-sign-preserved t c = (
  search rules,
  λ p v e.
      let r = c.loop-sign.invariant.1 p v e in
      reached_more c.args.left c.args.level p v c.loop-sign.at (view c.loop-sign.self) r c.in-Some.sign c.in_ok-at.at (view c.linked.new.self) c.in-Some.ensures (c.in_ok-at.ensures.answer r.found),
)

pub links-returns-in_err-at-clause-answer : goal.links-returns-in_err-at-clause-answer
links-returns-in_err-at-clause-answer t c =
    let exit = err_from_is_err_and c.from_residual.result c.from_residual.ensures.1 in
    let after = view c.linked.new.self in
    rw (exit.1, exit.2) (λ p v e.
    let r = c.loop-sign.invariant.1 p v e in
    reached_broken c.args.left c.args.level p v c.loop-sign.at (view c.loop-sign.self) r c.in-Some.sign c.in_err-at.field-0.0 after after c.in-Some.ensures (c.in_err-at.ensures.answer r.found))

pub links-loop-sign-smaller : goal.links-loop-sign-smaller
links-loop-sign-smaller t c =
    link_forward c.loop-sign.self.scope.now c.args.left c.args.level c.in-Some.sign c.loop-sign.at c.in_ok-at.at (view c.loop-sign.self) (view c.linked.new.self) c.in-Some.ensures c.in_ok-at.ensures.answer (tree.compare Value Equal (tree.numeral Unsigned 0) (tree.numeral Unsigned 0))

pub links-returns-clause-answer : goal.links-returns-clause-answer
links-returns-clause-answer t c = λ p v e. reached_all c.args.left c.args.level p v c.loop-sign.at (view c.loop-sign.self) (c.loop-sign.invariant.1 p v e) c.in_default.ensures

pub operand-returns-in-Punctuation : goal.operand-returns-in-Punctuation
operand-returns-in-Punctuation t c = record {
  answer = operand_by c.args.self.now.scope.now c.args.left (bracketed_way c.args.self.now.scope.now c.args.left).read (view c.args.self.now) c.bracketed.result (view c.bracketed.new.self) (tok.mark c.in-Punctuation.field-0) c.in-Punctuation.ensures refl c.bracketed.ensures.answer;
  balance = c.bracketed.ensures.balance;
}

pub operand-returns-in-Prefix : goal.operand-returns-in-Prefix
operand-returns-in-Prefix t c = record {
  answer = operand_by c.args.self.now.scope.now c.args.left (prefixed_way c.args.self.now.scope.now c.args.left c.in-Prefix.sign).read (view c.args.self.now) c.prefix.result (view c.prefix.new.self) (tok.prefix c.in-Prefix.sign) c.in-Prefix.ensures refl c.prefix.ensures.answer;
  balance = c.prefix.ensures.balance;
}

pub operand-returns-in-Change : goal.operand-returns-in-Change
operand-returns-in-Change t c = record {
  answer = operand_by c.args.self.now.scope.now c.args.left (change_comparison_way c.args.self.now.scope.now c.args.left).read (view c.args.self.now) c.change_comparison.result (view c.change_comparison.new.self) tok.change c.in-Change.ensures refl c.change_comparison.ensures.answer;
  balance = c.change_comparison.ensures.balance;
}

pub operand-returns-in_default : goal.operand-returns-in_default
operand-returns-in_default t c = record {
  answer =
      operand_by c.args.self.now.scope.now c.args.left (comparison_way c.args.self.now.scope.now c.args.left).read (view c.args.self.now) c.comparison.result (view c.comparison.new.self) (tok_of c.word.result) c.word.ensures
      (plain_operand c.args.self.now.scope.now c.args.left (view c.args.self.now) c.word.result c.in_default.not-Punctuation c.in_default.not-Change c.in_default.not-Prefix) c.comparison.ensures.answer;
  balance = c.comparison.ensures.balance;
}

pub prefix-returns-in_err-operand : goal.prefix-returns-in_err-operand
prefix-returns-in_err-operand t c =
    let exit = err_from_is_err_and c.from_residual-in_err-operand.result c.from_residual-in_err-operand.ensures.1 in
    let after = view c.operand.new.self in
    let before = view c.lead.new.self in
    let begun = led c.args.left c.args.sign (view c.args.self.now) (view c.prefix_sign.new.self) before c.in_ok-prefix.prefix c.in_ok-prefix_sign.ensures.answer c.in_ok-prefix.ensures.answer in
    rw (exit.1, exit.2) (record { answer = prefix_broken c.args.left c.args.sign (view c.args.self.now) before after after c.in_ok-prefix.prefix c.in_err-operand.field-0.0 begun c.in_err-operand.ensures.answer; balance = tt })

pub prefix-returns : goal.prefix-returns
prefix-returns t c =
    let start = c.args.self.now in
    let signs = c.prefix_sign.new.self in
    let leads = c.lead.new.self in
    let before = c.operand.new.self in
    let begun = led c.args.left c.args.sign (view start) (view signs) (view leads) c.in_ok-prefix.prefix c.in_ok-prefix_sign.ensures.answer c.in_ok-prefix.ensures.answer in
    record {
      answer = prefix_read c.args.left c.args.sign (view start) (view leads) (view before) (view c.write.new.self) c.in_ok-prefix.prefix c.in_ok-operand.field-0 c.write.result begun c.in_ok-operand.ensures.answer c.write.ensures.after (c.write.ensures.answer ∙ sym (counted before));
      balance = search rules;
    }

pub tier-returns-then-level-eq0 : goal.tier-returns-then-level-eq0
tier-returns-then-level-eq0 t c = record {
  answer = tier_operand c.args.self.now.scope.now c.args.left c.args.level (view c.args.self.now) c.operand.result (view c.operand.new.self) c.if-level-eq0.true c.operand.ensures.answer;
  balance = c.operand.ensures.balance;
}

pub tier-returns-in_err-at : goal.tier-returns-in_err-at
tier-returns-in_err-at t c =
    let exit = err_from_is_err_and c.from_residual.result c.from_residual.ensures.1 in
    let after = view c.tier.new.self in
    rw (exit.1, exit.2) (record { answer = tier_broken c.args.left c.args.level c.if-level-eq0.false (view c.args.self.now) after after c.in_err-at.field-0.0 c.in_err-at.ensures.answer; balance = tt })

pub tier-returns : goal.tier-returns
tier-returns t c =
    let start = c.args.self.now in
    let inner = c.tier.new.self in
    let after = c.links.new.self in
    record {
      answer = tier_read c.args.left c.args.level c.if-level-eq0.false (view start) (view inner) c.in_ok-at.at c.links.result (view after) c.in_ok-at.ensures.answer c.links.ensures.answer;
      balance = search rules;
    }
