-- The readers of comparisons and operands read every operand that is spelled and breaks no rule.
use Rattle.std.proofs.Common.{◌≡◌, ℕ, zero, suc, pred, ◌+◌, Bool, true, false, ltb, List, [], ◌∷◌, ◌++◌, None, sym, refl, subst, append_assoc, arith}
use Rattle.parts.specs.declared.kinds.Comparator.{Comparator}
use Rattle.parts.specs.declared.kinds.Quantity.{Quantity}
use Rattle.parts.specs.declared.kinds.Quantity.TheVariants.{Value, Change}
use Rattle.tokens.specs.Tokens.{Tok, Spot, mark, comparator, prefix, stop}
use Rattle.tokens.specs.declared.words.PrefixSign.{PrefixSign}
use Rattle.tokens.specs.declared.words.Punctuation.{Punctuation}
use Rattle.tokens.specs.declared.words.Punctuation.TheVariants.{Open, Close, OpenWindow}
use Rattle.grammar.specs.Layers.{MeasureText, PropertyText, a_comparison, a_prefix, a_bracket, tighter, a_link, loosest}
use Rattle.grammar.specs.Reading.{Outcome, Reader, first, is_mark, compared, comparison, change_comparison, prefix_sign, prefixed_by, bracketed_by, operand_at, sign_at}
use Rattle.grammar.specs.Steps.{Rules, Step, plain, bringing, nesting, leading, left_steps, measure_steps, property_steps}
use Rattle.grammar.specs.Trees.{MeasureTree, Lead, PropertyTree, compare, prefixed, bracketed}
use Rattle.grammar.proofs.CompleteMeasures.{gives_measure}
use Rattle.grammar.proofs.CompleteTokens.{Gives, it_does, if_true, made_gives, ahead_gives, then_gives, by_first, gives_brought, gives_mark, gives_opening, gives_lead}
use Rattle.grammar.proofs.Keeping.{left_for, opened}
use Rattle.grammar.proofs.PropertyReaders.{deeper_behind, prefixed_steps}
use Rattle.grammar.proofs.Spelling.{Spelled, more, part, respelled}
use Rattle.grammar.proofs.WindowReaders.{Led, led_by, lead_rest}

-- no connective of this level or a tighter one
abbrev pub Ends : ℕ → Tok → Type 0
Ends zero t = Unit {0}
Ends (suc level) t = (sign_at (suc level) t ≡ None) × Ends level t

ends_mark : (level : ℕ) (q : Punctuation) → Ends level (mark q)
ends_mark zero q = tt
ends_mark (suc level) q = (refl, ends_mark level q)

pub ends_stop : (level : ℕ) → Ends level stop
ends_stop zero = tt
ends_stop (suc level) = (refl, ends_stop level)

abbrev pub GivesProperties : Rules → ℕ → ℕ → Reader PropertyTree → Type 0
GivesProperties rules d level r = (ts : List Tok) (p : PropertyTree) (n n' : ℕ) (s s' : List Spot) → PropertyText level ts p → Ends level (first s').tok → Spelled rules n s (property_steps rules d p) n' s' → Gives p n' s' (r n s)

module _ {rules : Rules} where
  gives_compared : (d left : ℕ) (q : Quantity) (c : Comparator) (l m : MeasureTree) {us : List Tok} {n n' : ℕ} {s s' : List Spot} → d + left ≡ rules.nesting → MeasureText false us m → Spelled rules n s (bringing (comparator c) ∷ measure_steps rules d m) n' s' → Gives (compare q c l m) n' s' (compared rules left q l n s)
  gives_compared d left q c l m {n} deep t (more e w) = gives_brought rules n (comparator c) _ e (made_gives _ (gives_measure d left deep false _ m _ _ _ _ t w) it_does)

  gives_comparison : (d left : ℕ) (c : Comparator) (l m : MeasureTree) {ts us : List Tok} {n n' : ℕ} {s s' : List Spot} → d + left ≡ rules.nesting → MeasureText false ts l → MeasureText false us m → Spelled rules n s (measure_steps rules d l ++ (bringing (comparator c) ∷ measure_steps rules d m)) n' s' → Gives (compare Value c l m) n' s' (comparison rules left n s)
  gives_comparison d left c l m {n} {s} deep t u w = then_gives _ (measure_steps rules d l) (λ k v. gives_measure d left deep false _ l n k s v t) w (λ _ _ w. gives_compared d left Value c l m deep u w)

  gives_change : (d left : ℕ) (c : Comparator) (l m : MeasureTree) {ts us : List Tok} {n n' : ℕ} {s s' : List Spot} → d + left ≡ rules.nesting → MeasureText false ts l → MeasureText false us m → Spelled rules n s (left_steps rules d Change l ++ (bringing (comparator c) ∷ measure_steps rules d m)) n' s' → Gives (compare Change c l m) n' s' (change_comparison rules left n s)
  gives_change d left c l m deep t u (more e w) =
      then_gives _ (_ ∷ []) (λ _ _. gives_opening d left deep) w (λ k v x.
      then_gives _ (measure_steps rules (suc d) l) (λ k' v'. gives_measure (suc d) (pred left) (deeper_behind d left deep (opened d left (nesting (suc d) (mark Open)) deep refl w)) false _ l k k' v v' t) (respelled (append_assoc (measure_steps rules (suc d) l) (plain (mark Close) ∷ []) (bringing (comparator c) ∷ measure_steps rules d m)) x) (λ _ _ x.
      then_gives _ (_ ∷ []) (λ _ _. gives_mark Close) x (λ _ _ x.
      gives_compared d left Change c l m deep u x)))

  gives_prefix_sign : (d left : ℕ) (x : PrefixSign) {n n' : ℕ} {s s' : List Spot} → d + left ≡ rules.nesting → Spelled rules n s (leading (suc d) (prefix x) ∷ []) n' s' → Gives tt n' s' (prefix_sign rules left n s)
  gives_prefix_sign d left x deep h = grind (arith, if_true, left_for, it_does)

  -- what begins a measure begins a comparison
  by_comparison : (d left : ℕ) (inner whole : Reader PropertyTree) {inside : Bool} {ts : List Tok} {m : MeasureTree} {n n' : ℕ} {s s' : List Spot} → MeasureText inside ts m → Spelled rules n s (measure_steps rules d m) n' s' → operand_at rules left inner whole (first s).tok n s ≡ comparison rules left n s
  by_comparison d left inner whole h k = grind arith

  measure_begins : (d : ℕ) {inside : Bool} {ts : List Tok} {m : MeasureTree} {n n' : ℕ} {s s' : List Spot} → MeasureText inside ts m → Spelled rules n s (measure_steps rules d m) n' s' → is_mark OpenWindow (first s).tok ≡ false
  measure_begins d h k = grind arith

  -- no formula begins as an index of X does
  property_begins : (d : ℕ) {level : ℕ} {ts : List Tok} {p : PropertyTree} {n n' : ℕ} {s s' : List Spot} → PropertyText level ts p → Spelled rules n s (property_steps rules d p) n' s' → is_mark OpenWindow (first s).tok ≡ false
  property_begins d (a_comparison {q = Value} {m} t u) w = measure_begins d t (part (measure_steps rules d m) w).2
  property_begins d (a_comparison {q = Change} t u) (more e w) = refl
  property_begins d (a_prefix {l} {p} h t) w = by (respelled (prefixed_steps rules d p (led_by l h).1) w)
    where
      by : {x : PrefixSign} {n n' : ℕ} {s s' : List Spot} {ys : List Step} → Spelled rules n s (leading (suc d) (prefix x) ∷ ys) n' s' → is_mark OpenWindow (first s).tok ≡ false
      by (more e w) = refl
  property_begins d (a_bracket t) (more e w) = refl
  property_begins d (tighter t) w = property_begins d t w
  property_begins d (a_link {p} e t u) w = property_begins d t (part (property_steps rules d p) w).2

  gives_prefixed : (d left : ℕ) (inner : Reader PropertyTree) (x : PrefixSign) (l : Lead) (p : PropertyTree) {ts : List Tok} {n n' : ℕ} {s s' : List Spot} → d + left ≡ rules.nesting → (ltb 0 left ≡ true → GivesProperties rules (suc d) 0 inner) → Led x l → PropertyText 0 ts p → Spelled rules n s (leading (suc d) (prefix x) ∷ (lead_rest rules l ++ property_steps rules (suc d) p)) n' s' → Gives (prefixed l p) n' s' (prefixed_by rules left x inner n s)
  gives_prefixed d left inner x l p {n'} {s'} deep g h t w =
      then_gives _ (_ ∷ []) (λ _ _. gives_prefix_sign d left x deep) w (λ _ _ v.
      ahead_gives _ (lead_rest rules l) (λ _ _ after. gives_lead h (property_begins (suc d) t after)) v (λ k u v.
      made_gives _ (g (opened d left (leading (suc d) (prefix x)) deep refl w) _ p k n' u s' t tt v) it_does))

  gives_bracketed : (d left : ℕ) (whole : Reader PropertyTree) (p : PropertyTree) {ts : List Tok} {n n' : ℕ} {s s' : List Spot} → d + left ≡ rules.nesting → (ltb 0 left ≡ true → GivesProperties rules (suc d) loosest whole) → PropertyText loosest ts p → Spelled rules n s (property_steps rules d (bracketed p)) n' s' → Gives (bracketed p) n' s' (bracketed_by left whole n s)
  gives_bracketed d left whole p deep g t w =
      then_gives _ (_ ∷ []) (λ _ _. gives_opening d left deep) w (λ k u v.
      ahead_gives _ (property_steps rules (suc d) p) (λ k' u' after. g (opened d left (nesting (suc d) (mark Open)) deep refl w) _ p k k' u u' t (closed after)) v (λ _ _ v.
      made_gives _ (gives_mark Close v) it_does))
    where
      closed : {n n' : ℕ} {s s' : List Spot} {ys : List Step} → Spelled rules n s (plain (mark Close) ∷ ys) n' s' → Ends loosest (first s).tok
      closed (more e w) = ends_mark loosest Close

  pub gives_operand_at : (d left : ℕ) (inner whole : Reader PropertyTree) → d + left ≡ rules.nesting → (ltb 0 left ≡ true → GivesProperties rules (suc d) 0 inner) → (ltb 0 left ≡ true → GivesProperties rules (suc d) loosest whole) → {ts : List Tok} {p : PropertyTree} {n n' : ℕ} {s s' : List Spot} → PropertyText 0 ts p → Spelled rules n s (property_steps rules d p) n' s' → Gives p n' s' (operand_at rules left inner whole (first s).tok n s)
  gives_operand_at d left inner whole deep g h {n} {n'} {s} {s'} (a_comparison {q = Value} {c} {m = l} {n = m} t u) w = subst (λ (o : Outcome PropertyTree). Gives (compare Value c l m) n' s' o) (sym (by_comparison d left inner whole t (part (measure_steps rules d l) w).2)) (gives_comparison d left c l m deep t u w)
  gives_operand_at d left inner whole deep g h (a_comparison {q = Change} {c} {m = l} {n = m} t u) w = by_first (operand_at rules left inner whole) w (gives_change d left c l m deep t u w)
  gives_operand_at d left inner whole deep g h (a_prefix {l} {p} k t) w =
      let x = led_by l k in
      let v = respelled (prefixed_steps rules d p x.1) w in
      by_first (operand_at rules left inner whole) v (gives_prefixed d left inner x.0 l p deep g x.1 t v)
  gives_operand_at d left inner whole deep g h (a_bracket {p} t) w = by_first (operand_at rules left inner whole) w (gives_bracketed d left whole p deep h t w)
