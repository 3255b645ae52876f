-- No tree breaks a lax rule, if its parts and its nesting have room.
use Rattle.std.proofs.Common.{◌≡◌, ℕ, suc, ◌+◌, ◌≤◌, List, [], ◌∷◌, ◌++◌, length, None, sym, refl, ap, ◌∙◌, arith, le-leb}
use lib.ListN.{length-map}
use Rattle.parts.specs.declared.kinds.Quantity.{Quantity}
use Rattle.parts.specs.declared.kinds.Quantity.TheVariants.{Value, Change}
use Rattle.tokens.specs.Tokens.{Tok}
use Rattle.grammar.specs.Faults.{brought_by, broken_by, first_broken}
use Rattle.grammar.specs.Laws.{steps, Reads}
use Rattle.grammar.specs.Layers.{PropertyText, loosest}
use Rattle.grammar.specs.Steps.{Step, window_steps, lead_steps, link_steps, left_steps, measure_steps, property_steps}
use Rattle.grammar.specs.Trees.{MeasureTree, numeral, variable, unary, binary, over, Lead, negation, next, skipping, eventually, always, Link, and, or, implies, iff, until, PropertyTree, compare, prefixed, joined, bracketed}
use Rattle.grammar.proofs.FirstBroken.{first_broken_step}
use Rattle.grammar.proofs.Keeping.{judged}
use Rattle.grammar.proofs.LaxReaders.{lax}
use Rattle.grammar.proofs.TextTokens.{property_tokens}

-- no step breaks a rule of its own, and none is nested deeper than k
data Mild (k : ℕ) : List Step → Type 0 where
  none : Mild k []
  more : {x : Step} {xs : List Step} → x.breaks ≡ None → x.depth ≤ k → Mild k xs → Mild k (x ∷ xs)

both : {k : ℕ} {xs ys : List Step} → Mild k xs → Mild k ys → Mild k (xs ++ ys)
both none q = q
both (more b d p) q = more b d (both p q)

-- no fewer than the nestings of a measure, and of a formula
measure_depth : MeasureTree → ℕ
measure_depth (numeral s n) = 0
measure_depth (variable name) = 0
measure_depth (unary u m) = suc (measure_depth m)
measure_depth (binary b m n) = suc (measure_depth m + measure_depth n)
measure_depth (over s a b m) = suc (measure_depth m)

pub property_depth : PropertyTree → ℕ
property_depth (compare q c m n) = suc (measure_depth m + measure_depth n)
property_depth (prefixed l p) = suc (property_depth p)
property_depth (joined l p q) = property_depth p + property_depth q
property_depth (bracketed p) = suc (property_depth p)

brought_by_most : (n : ℕ) (x : Step) → brought_by n x ≤ suc n
brought_by_most n x = grind arith

module _ (parts nesting : ℕ) where
  none_broken : {xs : List Step} (n i : ℕ) → n + length xs ≤ parts → Mild nesting xs → first_broken (lax parts nesting) n xs i ≡ None
  none_broken n i h none = refl
  none_broken n i h (more {x} {xs} b d p) =
      let most = brought_by_most n x in
      let kept : broken_by (lax parts nesting) n x ≡ None = judged (lax parts nesting) n x (le-leb (brought_by n x) parts (omega arith)) (le-leb x.depth nesting d) ∙ b in
      first_broken_step (lax parts nesting) n x xs i kept ∙ none_broken (brought_by n x) (suc i) (omega arith) p

  module _ (k : ℕ) where
    mild_window : (a b : ℕ) → Mild k (window_steps (lax parts nesting) a b)
    mild_window a b = more refl (omega arith) (more refl (omega arith) (more refl (omega arith) (more refl (omega arith) (more refl (omega arith) none))))

    mild_measure : (d : ℕ) (m : MeasureTree) → d + measure_depth m ≤ k → Mild k (measure_steps (lax parts nesting) d m)
    unfolding measure_depth
    mild_measure d (numeral s n) h = more refl (omega arith) none
    mild_measure d (variable name) h = more refl (omega arith) none
    mild_measure d (unary u m) h = more refl (omega arith) (more refl (omega arith) (both (mild_measure (suc d) m (omega arith)) (more refl (omega arith) none)))
    mild_measure d (binary b m n) h = more refl (omega arith) (more refl (omega arith) (both (both (mild_measure (suc d) m (omega arith)) (more refl (omega arith) (mild_measure (suc d) n (omega arith)))) (more refl (omega arith) none)))
    mild_measure d (over s a b m) h = more refl (omega arith) (more refl (omega arith) (both (both (mild_window a b) (mild_measure (suc d) m (omega arith))) (more refl (omega arith) none)))

    mild_lead : (d : ℕ) (l : Lead) → d ≤ k → Mild k (lead_steps (lax parts nesting) d l)
    mild_lead d negation h = more refl h none
    mild_lead d next h = more refl h none
    mild_lead d (skipping s n) h = more refl h (more refl (omega arith) (more refl (omega arith) (more refl (omega arith) none)))
    mild_lead d (eventually a b) h = more refl h (mild_window a b)
    mild_lead d (always a b) h = more refl h (mild_window a b)

    mild_link : (l : Link) → Mild k (link_steps (lax parts nesting) l)
    mild_link and = more refl (omega arith) none
    mild_link or = more refl (omega arith) none
    mild_link implies = more refl (omega arith) none
    mild_link iff = more refl (omega arith) none
    mild_link (until a b) = more refl (omega arith) (mild_window a b)

    mild_left : (d : ℕ) (q : Quantity) (m : MeasureTree) → suc (d + measure_depth m) ≤ k → Mild k (left_steps (lax parts nesting) d q m)
    mild_left d Value m h = mild_measure d m (omega arith)
    mild_left d Change m h = more refl (omega arith) (more refl (omega arith) (both (mild_measure (suc d) m (omega arith)) (more refl (omega arith) none)))

    mild_property : (d : ℕ) (p : PropertyTree) → d + property_depth p ≤ k → Mild k (property_steps (lax parts nesting) d p)
    unfolding property_depth
    mild_property d (compare q c m n) h = both (mild_left d q m (omega arith)) (more refl (omega arith) (mild_measure d n (omega arith)))
    mild_property d (prefixed l p) h = both (mild_lead (suc d) l (omega arith)) (mild_property (suc d) p (omega arith))
    mild_property d (joined l p q) h = both (mild_property d p (omega arith)) (both (mild_link l) (mild_property d q (omega arith)))
    mild_property d (bracketed p) h = more refl (omega arith) (both (mild_property (suc d) p (omega arith)) (more refl (omega arith) none))

  pub reads_lax : (ts : List Tok) (p : PropertyTree) → length ts ≤ parts → property_depth p ≤ nesting → PropertyText loosest ts p → Reads (lax parts nesting) ts p
  reads_lax ts p long deep t =
      let size : length (steps (lax parts nesting) p) ≡ length ts = sym (length-map (steps (lax parts nesting) p) (λ x. x.tok)) ∙ ap length (property_tokens (lax parts nesting) 0 t) in
      record { text = t; kept = none_broken 0 0 (omega arith) (mild_property nesting 0 p (omega arith)) }
