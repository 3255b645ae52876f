-- The readers of comparisons, operands, levels and formulas are right.
use Rattle.std.proofs.Common.{◌≡◌, ℕ, zero, suc, pred, ◌+◌, true, false, ◌&&◌, ltb, leb, List, [], ◌∷◌, ◌++◌, length, Some, None, Option, sym, refl, ap, ◌∙◌, subst, append_assoc, append-nil, zero-add, arith, ltb-true}
use Rattle.parts.specs.declared.kinds.Comparator.{Comparator}
use Rattle.parts.specs.declared.kinds.Comparator.TheVariants.{Less}
use Rattle.parts.specs.declared.kinds.Quantity.{Quantity}
use Rattle.parts.specs.declared.kinds.Quantity.TheVariants.{Value, Change}
use Rattle.tokens.specs.Tokens.{Tok, Spot, mark, change, comparator, unary, binary, statistic, prefix, connective, numeral, variable, stray, stop}
use Rattle.tokens.specs.declared.words.ConnectiveSign.{ConnectiveSign}
use Rattle.tokens.specs.declared.words.PrefixSign.{PrefixSign}
use Rattle.tokens.specs.declared.words.Punctuation.TheVariants.{Open, Close}
use Rattle.grammar.specs.Layers.{PropertyText, a_comparison, a_prefix, a_bracket, tighter, a_link, loosest}
use Rattle.grammar.specs.Reading.{got, Reader, and_then, refuse, bring, comparator_of, compared_by, compared, comparison, change_comparison, prefix_sign, prefixed_by, bracketed_by, operand_at, sign_at, sign_level, linked, links, tier, operand, formula}
use Rattle.grammar.specs.Steps.{Rules, Step, plain, bringing, nesting, leading, link_steps, left_steps, measure_steps, property_steps}
use Rattle.grammar.specs.Trees.{MeasureTree, Lead, Link, PropertyTree, compare, prefixed, joined, bracketed}
use Rattle.grammar.proofs.Keeping.{Room, leb_left, plain_judged}
use Rattle.grammar.proofs.MeasureReaders.{AMeasure, some_measure, some_measure_is, measure_fine}
use Rattle.grammar.proofs.Outcomes.{Language, cannot, Right, reads, refuses, Fine, then_right, behind_right}
use Rattle.grammar.proofs.Spelling.{Spelled, none, more, respelled}
use Rattle.grammar.proofs.TokenKinds.{comparator_is, sign_is}
use Rattle.grammar.proofs.TokenReaders.{spot, one, take_right, punctuation_fine, opening_fine, bring_right, left_over, none_left, deeper}
use Rattle.grammar.proofs.WindowReaders.{Led, led_steps, led_text, some_lead, lead_rest, lead_fine, Linked, linked_steps, linked_level, some_link, link_rest, link_fine}

abbrev pub AProperty : ℕ → PropertyTree → Type 0
AProperty level p = (ts : List Tok) × PropertyText level ts p

-- inside so many nestings, bound as tightly as this level
abbrev pub properties : Rules → ℕ → ℕ → Language PropertyTree
properties rules d level = record { steps = property_steps rules d; has = AProperty level }

a_comparison_is : (q : Quantity) (c : Comparator) {m n : MeasureTree} → AMeasure false m → AMeasure false n → AProperty 0 (compare q c m n)
a_comparison_is q c h k = (_, a_comparison {q = q} {c = c} h.1 k.1)

-- a comparison can stand wherever a formula can
abbrev some_property : PropertyTree
some_property = compare Value Less some_measure some_measure

some_property_is : (level : ℕ) → AProperty level some_property
some_property_is zero = a_comparison_is Value Less some_measure_is some_measure_is
some_property_is (suc level) = let h = some_property_is level in (h.0, tighter h.1)

bracket_is : {p : PropertyTree} → AProperty loosest p → AProperty 0 (bracketed p)
bracket_is h = (_, a_bracket h.1)

prefix_is : {x : PrefixSign} {l : Lead} {p : PropertyTree} → Led x l → AProperty 0 p → AProperty 0 (prefixed l p)
prefix_is {l} e h = (_, a_prefix {l = l} (led_text e) h.1)

link_is : {level : ℕ} {x : ConnectiveSign} {l : Link} {p q : PropertyTree} → sign_level x ≡ suc level → Linked x l → AProperty (suc level) p → AProperty level q → AProperty (suc level) (joined l p q)
link_is e k h i = (_, a_link (linked_level k ∙ e) h.1 i.1)

pub deeper_behind : (d left : ℕ) {most : ℕ} → d + left ≡ most → ltb 0 left ≡ true → suc d + pred left ≡ most
deeper_behind d left deep l = let h = ltb-true 0 left l in omega arith

-- the steps of a joined tree, as they are read
joined_steps : (ps qs rs ls : List Step) (x : Step) → ls ≡ x ∷ rs → ps ++ (ls ++ qs) ≡ ((ps ++ (x ∷ [])) ++ rs) ++ qs
joined_steps ps qs rs ls x e = grind (arith, append_assoc)

pub prefixed_steps : {x : PrefixSign} {l : Lead} (rules : Rules) (d : ℕ) (p : PropertyTree) → Led x l → property_steps rules d (prefixed l p) ≡ leading (suc d) (prefix x) ∷ (lead_rest rules l ++ property_steps rules (suc d) p)
prefixed_steps rules d p h = ap (λ (ks : List Step). ks ++ property_steps rules (suc d) p) (led_steps rules (suc d) h)

module _ {rules : Rules} where
  compared_right : (d left : ℕ) (q : Quantity) {n n' : ℕ} {s : List Spot} {m : MeasureTree} (s' : List Spot) → d + left ≡ rules.nesting → AMeasure false m → Room rules n' → Spelled rules n s (left_steps rules d q m) n' s' → Right rules (properties rules d 0) n s (compared rules left q m n' s')
  compared_right d left q [] deep h r w = refuses (a_comparison_is q Less h some_measure_is) refl w cannot
  compared_right d left q {n} {n'} {s} {m} (x ∷ s') deep h r w = by (comparator_of x.tok) refl
    where
      ls : List Step
      ls = left_steps rules d q m

      signed : (c : Comparator) → Spelled rules n s ls n' (spot (comparator c) x.at ∷ s') → Right rules (properties rules d 0) n s (compared_by rules left q m (Some c) n' (spot (comparator c) x.at ∷ s'))
      signed c w =
          behind_right (bring rules n' (spot (comparator c) x.at ∷ s')) w r (bring_right (comparator c) n' x.at s') (λ _ _. (compare q c m some_measure, a_comparison_is q c h some_measure_is, _, sym (append_assoc ls (bringing (comparator c) ∷ []) (measure_steps rules d some_measure)))) (λ _ n s _ r w.
          then_right w r (measure_fine d left deep false n _ r) (λ k i. (compare q c m k, a_comparison_is q c h i, [], simp (append_assoc, append-nil))) (λ k n s i r w.
          reads (a_comparison_is q c h i) (respelled (append_assoc ls (bringing (comparator c) ∷ []) (measure_steps rules d k)) w)))

      by : (o : Option Comparator) → comparator_of x.tok ≡ o → Right rules (properties rules d 0) n s (compared_by rules left q m o n' (x ∷ s'))
      by None e = refuses (a_comparison_is q Less h some_measure_is) refl w cannot
      by (Some c) e = subst (λ (t : Tok). Spelled rules n s ls n' (spot t x.at ∷ s') → Right rules (properties rules d 0) n s (compared_by rules left q m (Some c) n' (spot t x.at ∷ s'))) (sym (comparator_is x.tok c e)) (signed c) w

  comparison_fine : (d left : ℕ) → d + left ≡ rules.nesting → Fine rules (comparison rules left) (properties rules d 0)
  comparison_fine d left deep n s r =
      then_right none r (measure_fine d left deep false n s r) (λ m h. (compare Value Less m some_measure, a_comparison_is Value Less h some_measure_is, _, refl)) (λ m n s h r w.
      compared_right d left Value s deep h r w)

  change_right : (d left n place : ℕ) (s : List Spot) → d + left ≡ rules.nesting → Room rules n → Right rules (properties rules d 0) n (spot change place ∷ s) (change_comparison rules left n (spot change place ∷ s))
  change_right d left n place s deep r =
      then_right (more (plain_judged rules n change r) none) r (opening_fine d left deep n s r) (λ _ _. (compare Change Less some_measure some_measure, a_comparison_is Change Less some_measure_is some_measure_is, _, refl)) (λ _ n s _ r w.
      then_right w r (measure_fine (suc d) (pred left) (deeper_behind d left deep (left_over d left (plain change ∷ []) (nesting (suc d) (mark Open)) deep refl w)) false n s r) (λ m h. (compare Change Less m some_measure, a_comparison_is Change Less h some_measure_is, _, ap {B = List Step} (λ (ks : List Step). plain change ∷ nesting (suc d) (mark Open) ∷ ks) (append_assoc (measure_steps rules (suc d) m) (plain (mark Close) ∷ []) (bringing (comparator Less) ∷ measure_steps rules d some_measure)))) (λ m n s h r w.
      then_right w r (punctuation_fine Close n s r) (λ _ _. (compare Change Less m some_measure, a_comparison_is Change Less h some_measure_is, _, refl)) (λ _ n s _ r w.
      compared_right d left Change s deep h r w)))

  prefix_sign_right : (d left n place : ℕ) (s : List Spot) (x : PrefixSign) → d + left ≡ rules.nesting → Right rules (one (leading (suc d) (prefix x))) n (spot (prefix x) place ∷ s) (prefix_sign rules left n (spot (prefix x) place ∷ s))
  prefix_sign_right d left n place s x deep =
      take_right tt (leading (suc d) (prefix x)) (ltb 0 left && leb (suc n) rules.parts) 6 (λ z. omega arith)
      (grind (arith, leb_left d left, deep)) refl tt refl

  prefixed_right : {inner : Reader PropertyTree} (d left n place : ℕ) (s : List Spot) (x : PrefixSign) → d + left ≡ rules.nesting → Room rules n → (ltb 0 left ≡ true → Fine rules inner (properties rules (suc d) 0)) → Right rules (properties rules d 0) n (spot (prefix x) place ∷ s) (prefixed_by rules left x inner n (spot (prefix x) place ∷ s))
  prefixed_right d left n place s x deep r fine =
      then_right none r (prefix_sign_right d left n place s x deep) (λ _ _. let h = some_lead x in (prefixed h.0 some_property, prefix_is h.1 (some_property_is 0), _, prefixed_steps rules d some_property h.1)) (λ _ n s _ r w₀.
      then_right w₀ r (lead_fine x n s r) (λ l h. (prefixed l some_property, prefix_is h (some_property_is 0), _, prefixed_steps rules d some_property h)) (λ l n s h r w.
      then_right w r (fine (left_over d left [] (leading (suc d) (prefix x)) deep refl w₀) n s r) (λ p i. (prefixed l p, prefix_is h i, [], prefixed_steps rules d p h ∙ sym (append-nil _))) (λ p n s i r w.
      reads (prefix_is h i) (respelled (sym (prefixed_steps rules d p h)) w))))

  bracketed_fine : {whole : Reader PropertyTree} (d left : ℕ) → d + left ≡ rules.nesting → (ltb 0 left ≡ true → Fine rules whole (properties rules (suc d) loosest)) → Fine rules (bracketed_by left whole) (properties rules d 0)
  bracketed_fine d left deep fine n s r =
      then_right none r (opening_fine d left deep n s r) (λ _ _. (bracketed some_property, bracket_is (some_property_is loosest), _, refl)) (λ _ n s _ r w.
      then_right w r (fine (left_over d left [] (nesting (suc d) (mark Open)) deep refl w) n s r) (λ p h. (bracketed p, bracket_is h, _, refl)) (λ p n s h r w.
      then_right w r (punctuation_fine Close n s r) (λ _ _. (bracketed p, bracket_is h, [], sym (append-nil _))) (λ _ n s _ r w.
      reads (bracket_is h) w)))

  operand_at_right : {inner whole : Reader PropertyTree} (d left : ℕ) → d + left ≡ rules.nesting → (ltb 0 left ≡ true → Fine rules inner (properties rules (suc d) 0)) → (ltb 0 left ≡ true → Fine rules whole (properties rules (suc d) loosest)) → (t : Tok) (n place : ℕ) (s : List Spot) → Room rules n → Right rules (properties rules d 0) n (spot t place ∷ s) (operand_at rules left inner whole t n (spot t place ∷ s))
  operand_at_right d left deep inner whole (mark q) n place s r = bracketed_fine d left deep whole n (spot (mark q) place ∷ s) r
  operand_at_right d left deep inner whole (prefix x) n place s r = prefixed_right d left n place s x deep r inner
  operand_at_right d left deep inner whole change n place s r = change_right d left n place s deep r
  operand_at_right d left deep inner whole (comparator c) n place s r = comparison_fine d left deep n (spot (comparator c) place ∷ s) r
  operand_at_right d left deep inner whole (unary u) n place s r = comparison_fine d left deep n (spot (unary u) place ∷ s) r
  operand_at_right d left deep inner whole (binary b) n place s r = comparison_fine d left deep n (spot (binary b) place ∷ s) r
  operand_at_right d left deep inner whole (statistic x) n place s r = comparison_fine d left deep n (spot (statistic x) place ∷ s) r
  operand_at_right d left deep inner whole (connective x) n place s r = comparison_fine d left deep n (spot (connective x) place ∷ s) r
  operand_at_right d left deep inner whole (numeral sign k) n place s r = comparison_fine d left deep n (spot (numeral sign k) place ∷ s) r
  operand_at_right d left deep inner whole (variable name) n place s r = comparison_fine d left deep n (spot (variable name) place ∷ s) r
  operand_at_right d left deep inner whole stray n place s r = comparison_fine d left deep n (spot stray place ∷ s) r
  operand_at_right d left deep inner whole stop n place s r = comparison_fine d left deep n (spot stop place ∷ s) r

  linked_right : {inner : Reader PropertyTree} {p : PropertyTree} (d level : ℕ) {n n' : ℕ} {s : List Spot} (x : ConnectiveSign) (place : ℕ) (t : List Spot) → Fine rules inner (properties rules d level) → sign_level x ≡ suc level → AProperty (suc level) p → Room rules n' → Spelled rules n s (property_steps rules d p) n' (spot (connective x) place ∷ t) → Right rules (properties rules d (suc level)) n s (linked rules inner p x n' (spot (connective x) place ∷ t))
  linked_right {p} d level {n'} x place t fine e hp r w =
      behind_right (bring rules n' (spot (connective x) place ∷ t)) w r (bring_right (connective x) n' place t) (λ _ _. let l = some_link x in (joined l.0 p some_property, link_is e l.1 hp (some_property_is level), _, steps some_property l.1 ∙ append_assoc (ps ++ (bringing (connective x) ∷ [])) (link_rest rules l.0) (property_steps rules d some_property))) (λ _ n s _ r w.
      then_right w r (link_fine x n _ r) (λ l h. (joined l p some_property, link_is e h hp (some_property_is level), _, steps some_property h)) (λ l n s h r w.
      then_right w r (fine n s r) (λ q i. (joined l p q, link_is e h hp i, [], steps q h ∙ sym (append-nil _))) (λ q n s i r w.
      reads (link_is e h hp i) (respelled (sym (steps q h)) w))))
    where
      ps : List Step
      ps = property_steps rules d p

      steps : {l : Link} (q : PropertyTree) → Linked x l → property_steps rules d (joined l p q) ≡ ((ps ++ (bringing (connective x) ∷ [])) ++ link_rest rules l) ++ property_steps rules d q
      steps {l} q h = joined_steps ps (property_steps rules d q) (link_rest rules l) (link_steps rules l) (bringing (connective x)) (linked_steps rules h)

  links_right : {inner : Reader PropertyTree} (d level : ℕ) → Fine rules inner (properties rules d level) → (most : ℕ) {n n' : ℕ} {s : List Spot} (p : PropertyTree) (s' : List Spot) → AProperty (suc level) p → Room rules n → Room rules n' → Spelled rules n s (property_steps rules d p) n' s' → Right rules (properties rules d (suc level)) n s (links most rules (suc level) inner p n' s')
  unfolding links
  links_right d level fine zero p s' h r₀ r w = reads h w
  links_right d level fine (suc most) p [] h r₀ r w = reads h w
  links_right {inner} d level fine (suc most) {n} {n'} {s} p (x ∷ s') h r₀ r w = by (λ q m t. links_right d level fine most q t) (sign_at (suc level) x.tok) refl
    where
      by : ((q : PropertyTree) (m : ℕ) (t : List Spot) → AProperty (suc level) q → Room rules n → Room rules m → Spelled rules n s (property_steps rules d q) m t → Right rules (properties rules d (suc level)) n s (links most rules (suc level) inner q m t)) → (o : Option ConnectiveSign) → sign_at (suc level) x.tok ≡ o → Right rules (properties rules d (suc level)) n s (elim o [ None ↦ got p n' (x ∷ s') | Some y ↦ and_then (linked rules inner p y n' (x ∷ s')) (links most rules (suc level) inner) ])
      by again None e = reads h w
      by again (Some y) e =
          let is = sign_is (suc level) x.tok y e in
          subst (λ (t : Tok). Spelled rules n s (property_steps rules d p) n' (spot t x.at ∷ s') → Right rules (properties rules d (suc level)) n s (and_then (linked rules inner p y n' (spot t x.at ∷ s')) (links most rules (suc level) inner))) (sym is.0)
          (λ w. then_right none r₀ (linked_right d level y x.at s' fine is.1 h r w) (λ q i. (q, i, [], sym (append-nil _))) (λ q m t i r w. again q m t i r₀ r w)) w

  tier_fine : {inner : Reader PropertyTree} (d : ℕ) → Fine rules inner (properties rules d 0) → (level : ℕ) → Fine rules (tier rules inner level) (properties rules d level)
  unfolding tier
  tier_fine d fine zero n s r = fine n s r
  tier_fine d fine (suc level) n s r₀ =
      then_right none r₀ (tier_fine d fine level n s r₀) (λ p h. (p, (h.0, tighter h.1), [], sym (append-nil _))) (λ p n s h r w.
      links_right d level (tier_fine d fine level) (length s) p s (h.0, tighter h.1) r₀ r w)

  operand_fine : (d left : ℕ) → d + left ≡ rules.nesting → Fine rules (operand rules left) (properties rules d 0)
  unfolding operand
  operand_fine d zero deep n [] r = comparison_fine d zero deep n [] r
  operand_fine d zero deep n (x ∷ s) r = operand_at_right {inner = λ n s. refuse 2 s} {whole = λ n s. refuse 2 s} d zero deep (λ l. absurd (none_left l)) (λ l. absurd (none_left l)) x.tok n x.at s r
  operand_fine d (suc left) deep n [] r = comparison_fine d (suc left) deep n [] r
  operand_fine d (suc left) deep n (x ∷ s) r = operand_at_right d (suc left) deep (λ _. operand_fine (suc d) left (deeper d left deep)) (λ _. tier_fine (suc d) (operand_fine (suc d) left (deeper d left deep)) loosest) x.tok n x.at s r

  pub formula_fine : Fine rules (formula rules rules.nesting) (properties rules 0 loosest)
  formula_fine = grind (arith, tier_fine, operand_fine, zero-add)
