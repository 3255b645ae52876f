use Rattle.std.proofs.Common.{◌≡◌, ◌≤◌, true, false, length, Ok, sym, refl, ap, ◌∙◌, subst, rules}
use Rattle.std.proofs.lemmas.Result.{err_from_is_err_and}
use Rattle.records.specs.Told.{seen_field}
use Rattle.records.proofs.Follows.{is_field}
use Rattle.records.proofs.Gathering.{begin, called, text_refused, field_refused, no_more, at_last, goes_on}
use Rattle.records.proofs.fields.Fields.gather.Goals as goal

pub loop-field-init : goal.loop-field-init
loop-field-init g c = (begin _ _ _ _ (search rules) c.none-sum.ensures, refl)

pub returns-in_err-field : goal.returns-in_err-field
returns-in_err-field g c =
    let told = c.next_field.ensures in
    let exit = err_from_is_err_and c.from_residual.result c.from_residual.ensures.1 in
    let call = called c.loop-field.invariant.1 told.answer told.after c.in_err-field.was in
    rw (exit.1, exit.2) (record { answer = sym (text_refused _ c.loop-field.invariant.0 _ call); after = tt; bytes = told.bytes ∙ c.loop-field.invariant.1 })

pub returns-in_err-take : goal.returns-in_err-take
returns-in_err-take g c =
    let told = c.next_field.ensures in
    let old = c.loop-field.invariant.0 in
    let exit = err_from_is_err_and c.from_residual-in_err-take.result c.from_residual-in_err-take.ensures.1 in
    let call = called c.loop-field.invariant.1 told.answer told.after (c.in_ok-field.was ∙ ap Ok c.in-Some.is) in
    rw (exit.1, exit.2) (record {
      answer = sym (field_refused _ old (seen_field c.in-Some.field) call _ (c.in_err-take.ensures _ old.items old.held));
      after = tt;
      bytes = told.bytes ∙ c.loop-field.invariant.1;
    })

pub returns-then-ne : goal.returns-then-ne
returns-then-ne g c =
    let no_field : is_field c.in-Some.field.next ≡ false = search rules in
    let told = c.next_field.ensures in
    let old = c.loop-field.invariant.0 in
    let call = called c.loop-field.invariant.1 told.answer told.after (c.in_ok-field.was ∙ ap Ok c.in-Some.is) in
    let all = at_last _ old (seen_field c.in-Some.field) call (c.in_ok-take.ensures _ old.items old.held) no_field in
    record { answer = all.answer; after = all.after; bytes = told.bytes ∙ c.loop-field.invariant.1 }

pub loop-field-preserved : goal.loop-field-preserved
loop-field-preserved g c =
    let field : is_field c.in-Some.field.next ≡ true = search rules in
    let told = c.next_field.ensures in
    let old = c.loop-field.invariant.0 in
    let same = told.bytes ∙ c.loop-field.invariant.1 in
    let after = c.next_field.new.self in
    let call = called c.loop-field.invariant.1 told.answer told.after (c.in_ok-field.was ∙ ap Ok c.in-Some.is) in
    let inside : after.at.byte ≤ length c.args.self.now.bytes.now = subst (λ b. after.at.byte ≤ length b.now) same after.within in
    ((goes_on _ old (seen_field c.in-Some.field) call (c.in_ok-take.ensures _ old.items old.held) field inside).0, same)

pub returns : goal.returns
returns g c =
    let told = c.next_field.ensures in
    let call = called c.loop-field.invariant.1 told.answer told.after (c.in_ok-field.was ∙ ap Ok c.in_default.is) in
    let all = no_more _ c.loop-field.invariant.0 call in
    record { answer = all.answer; after = all.after; bytes = told.bytes ∙ c.loop-field.invariant.1 }
