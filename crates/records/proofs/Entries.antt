-- The numbers of a record, gathered one after the other. Assumes nothing.
use Rattle.std.proofs.Common.{◌≡◌, Bool, true, false, cond, List, [], ◌∷◌, ◌++◌, pos, is_some, Some, unwrap_or, sym, refl}
use Rattle.records.specs.Records.{beyond, first_beyond, draft_of, with_entry}
use Rattle.records.specs.declared.fault.Position.{Position}
use Rattle.records.specs.declared.numbers.Entry.{Entry}
use Rattle.records.proofs.FirstFields.{firsts_push}

beyond_push : (es : List Entry) (e : Entry) → beyond (es ++ (e ∷ [])) ≡ first_beyond (beyond es) e
beyond_push [] e = refl
beyond_push (x ∷ es) e = by (is_some x.value) (beyond_push es e)
  where
    by : (some : Bool) → beyond (es ++ (e ∷ [])) ≡ first_beyond (beyond es) e → cond some (beyond (es ++ (e ∷ []))) (Some x.at) ≡ first_beyond (cond some (beyond es) (Some x.at)) e
    by true rest = rest
    by false rest = refl

pub draft_push : (p : Position) (es : List Entry) (e : Entry) → with_entry (draft_of p es) e ≡ draft_of p (es ++ (e ∷ []))
draft_push p es e =
    let numbers = firsts_push (λ x. unwrap_or x.value (pos 0)) (λ x. x.at) p es e in
    let first = sym (beyond_push es e) in
    λ i. record { numbers = numbers i; beyond = first i }
