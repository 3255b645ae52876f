-- The law of reading: what is read is what the grammar derives, and what is refused is refused at the first token at fault.
use Rattle.std.proofs.Common.{◌≡◌, ℕ, ◌+◌, List, [], ◌∷◌, ◌++◌, map, length, sym, refl, ap, ◌∙◌, subst, append-nil, arith}
use mathlib.Core.List.{map-append}
use Rattle.tokens.specs.Tokens.{Tok, Spot}
use Rattle.grammar.specs.Laws.{toks, ended, CannotFollow, Exactly}
use Rattle.grammar.specs.Layers.{PropertyText, loosest}
use Rattle.grammar.specs.Reading.{got, fault, first, reading}
use Rattle.grammar.specs.Steps.{Rules}
use Rattle.grammar.specs.Trees.{PropertyTree}
use Rattle.grammar.proofs.CannotFollow.{no_text}
use Rattle.grammar.proofs.CompleteReading.{complete_reading}
use Rattle.grammar.proofs.LaxReaders.{lax}
use Rattle.grammar.proofs.LaxTrees.{property_depth, reads_lax}
use Rattle.grammar.proofs.RefusedReading.{goes_on, breaks_first}
use Rattle.grammar.proofs.Regrouping.{derived, layered}
use Rattle.grammar.proofs.SoundReading.{sound_reading}

-- tokens, wherever they stand
spots : List Tok → List Spot
spots ts = map (λ t. record { tok = t; at = 0 }) ts

spots_tokens : (ts : List Tok) → toks (spots ts) ≡ ts
unfolding spots
spots_tokens [] = refl
spots_tokens (t ∷ ts) = ap {B = List Tok} (λ r. t ∷ r) (spots_tokens ts)

-- a text is read as one tree only, so it has no other
one_tree : (ts : List Spot) (p q : PropertyTree) → PropertyText loosest (toks ts) p → PropertyText loosest (toks ts) q → p ≡ q
one_tree ts p q t u =
    let nesting = property_depth p + property_depth q in
    let parts = length (toks ts) in
    let f = complete_reading (lax parts nesting) ts 0 p (reads_lax parts nesting (toks ts) p (omega arith) (omega arith) t) in
    let g = complete_reading (lax parts nesting) ts 0 q (reads_lax parts nesting (toks ts) q (omega arith) (omega arith) u) in
    let both : got p f.0 (ended [] 0) ≡ got q g.0 (ended [] 0) = sym f.1 ∙ g.1 in cc

cannot_follow : (rules : Rules) (s₀ s : List Spot) (place : ℕ) → reading rules s₀ ≡ fault 2 place s → (before : List Spot) × (before ++ s ≡ s₀) × (place ≡ (first s).at) × CannotFollow rules (toks before) (first s).tok
unfolding spots
cannot_follow rules s₀ s place e =
    let (before, split, there, on) = goes_on rules s₀ place s e in (
      before,
      split,
      there,
      record {
        goes_on = on;
        not_with = λ more d.
            let h = layered (toks before ++ ((first s).tok ∷ more)) d in
            no_text rules s₀ s before place e split (record { tok = (first s).tok; at = 0 } ∷ spots more) refl h.0
            (subst (λ (us : List Tok). PropertyText loosest us h.0) (sym (map-append (λ (x : Spot). x.tok) before (record { tok = (first s).tok; at = 0 } ∷ spots more) ∙ ap (λ (us : List Tok). toks before ++ ((first s).tok ∷ us)) (spots_tokens more))) h.1);
        not_ended = λ is d.
            let h = layered (toks before) d in
            no_text rules s₀ s before place e split [] is h.0 (subst (λ (us : List Spot). PropertyText loosest (toks us) h.0) (sym (append-nil before)) h.1);
      },
    )

pub reading_exact : (rules : Rules) → Exactly rules
reading_exact rules ts end all = record {
  sound = λ {p} {n} {s} e. sound_reading rules ts end all p n s e;
  complete = λ {p} h. complete_reading rules ts end p h;
  only = one_tree ts;
  derived = derived (toks ts);
  layered = layered (toks ts);
  cannot = λ {place} {s} e. cannot_follow rules (ended ts end) s place e;
  breaks = λ {number} {place} {s} e ne. breaks_first rules (ended ts end) number place s e ne;
}
