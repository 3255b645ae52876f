use Rattle.std.proofs.Common.{◌≡◌, ℕ, ◌-◌, length, replicate, Ok, sym, ap, ◌∙◌, subst, arith, length-take}
use Rattle.criteria.specs.Formulas.{blank}
use Rattle.criteria.specs.States.{Follows, View, view}
use Rattle.criteria.specs.Ways.{tier_way}
use Rattle.criteria.proofs.WholeTexts.{whole_text}
use Rattle.criteria.proofs.reader.whole.read_text.Goals as goal

pub made-requires : goal.made-requires
made-requires c =
    let read = c.formula.new.self in
    let whole =
    whole_text c.args.scope.now c.args.text.now c.in_ok-formula.field-0 (view read)
    (subst (λ (v : View). Follows (tier_way v.scope 32 5) v (Ok c.in_ok-formula.field-0) (view read)) c.over-reader.ensures c.in_ok-formula.ensures.answer)
    (sym c.if-not-is_ended.ensures) in
    let count : length (view read).parts ≡ read.count = length-take read.count read.parts ∙ omega (arith, read.places, read.few, read.written) in
    record { lawful = whole.lawful; rest = whole.rest ∙ ap (λ (n : ℕ). replicate (128 - n) blank) count }
