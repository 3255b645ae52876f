-- The calls that read a formula, one after the other, are the grammar's reading of it.
use Rattle.std.proofs.Common.{◌≡◌, ℕ, zero, suc, ◌+◌, ◌-◌, ◌<◌, Bool, true, false, cond, ◌&&◌, ltb, leb, List, [], ◌∷◌, ◌++◌, length, Ok, Err, Result, sym, refl, ap, ◌∙◌, subst, arith}
use Rattle.std.proofs.lemmas.List.{append-nil}
use Rattle.std.proofs.lemmas.Bool.{and_parts, ltb-true}
use Rattle.parts.specs.Order.{property_parts, property_size}
use Rattle.parts.specs.declared.kinds.Connective.{Connective}
use Rattle.parts.specs.declared.kinds.Part.{Part}
use Rattle.parts.specs.declared.kinds.Part.TheVariants as part
use Rattle.parts.specs.declared.kinds.Prefix.{Prefix}
use Rattle.parts.proofs.TreesOfParts.{length_property_parts}
use Rattle.tokens.specs.Told.{tok_of}
use Rattle.tokens.specs.Tokens.{Spot, Tok}
use Rattle.tokens.specs.declared.words.ConnectiveSign.{ConnectiveSign}
use Rattle.tokens.specs.declared.words.ConnectiveSign.TheVariants as connectives
use Rattle.tokens.specs.declared.words.PrefixSign.{PrefixSign}
use Rattle.tokens.specs.declared.words.PrefixSign.TheVariants as prefixes
use Rattle.tokens.specs.declared.words.Punctuation.{Punctuation}
use Rattle.tokens.specs.declared.words.Punctuation.TheVariants.{Close, Open}
use Rattle.tokens.specs.declared.words.Word.{Word}
use Rattle.tokens.specs.declared.words.Word.TheVariants as words
use Rattle.grammar.specs.Meanings.{connective_of, prefix_of, property_of}
use Rattle.grammar.specs.Reading.{Outcome, Reader, got, and_then, bracketed_by, comparison, first, formula, is_mark, lead, link, linked, operand, operand_at, prefixed_by, punctuation, refuse, rest, tier}
use Rattle.grammar.specs.Steps.{Rules}
use Rattle.grammar.specs.Trees as tree
use Rattle.grammar.specs.Trees.{Lead, Link, PropertyTree}
use Rattle.criteria.specs.States.{View, Follows, grown, moved}
use Rattle.criteria.specs.Ways.{bracketed_way, bring_way, columns_of, common_rules, inner_formula, inner_operand, lead_way, link_way, linked_way, opening_way, operand_way, prefix_sign_way, prefixed_way, proposing, punctuation_way, rules_of, tier_way}
use Rattle.criteria.specs.declared.fault.Breach.{Breach}
use Rattle.criteria.specs.declared.scope.Scope.{Scope}
use Rattle.criteria.proofs.Passing.{Grown, both, breaks, follows, goes, longer, passed, reads_as, scoped, unmoved, wrote}

-- inside one more nesting
operand_inner : (rules : Rules) (left n : ℕ) (s : List Spot) → 0 < left → inner_operand rules left n s ≡ operand rules (left - 1) n s
unfolding inner_operand
operand_inner rules zero n s h = absurd (omega arith)
operand_inner rules (suc left) n s h = ap (λ (k : ℕ). operand rules k n s) (omega arith)

formula_inner : (rules : Rules) (left n : ℕ) (s : List Spot) → 0 < left → inner_formula rules left n s ≡ formula rules (left - 1) n s
unfolding inner_formula
formula_inner rules zero n s h = absurd (omega arith)
formula_inner rules (suc left) n s h = ap (λ (k : ℕ). formula rules k n s) (omega arith)

operand_step : (rules : Rules) (left n : ℕ) (s : List Spot) → operand rules left n s ≡ operand_at rules left (inner_operand rules left) (inner_formula rules left) (first s).tok n s
unfolding operand inner_operand inner_formula
operand_step rules zero n s = refl
operand_step rules (suc left) n s = refl

pub operand_by : (scope : Scope) (left : ℕ) (read : Reader PropertyTree) (v : View) (r : Result ℕ Breach) (w : View) (t : Tok) → t ≡ (first v.spots).tok → read v.brought v.spots ≡ operand_at (rules_of scope) left (inner_operand (rules_of scope) left) (inner_formula (rules_of scope) left) t v.brought v.spots → Follows (proposing (columns_of scope) read) v r w → Follows (operand_way scope left) v r w
operand_by scope left read v r w t e same h =
    reads_as read (operand (rules_of scope) left) (λ at p. at + property_size (property_of (columns_of scope) p) - 1) (λ at p. property_parts at (property_of (columns_of scope) p)) v r w
    (same
    ∙ ap (λ (t : Tok). operand_at (rules_of scope) left (inner_operand (rules_of scope) left) (inner_formula (rules_of scope) left) t v.brought v.spots) e
    ∙ sym (operand_step (rules_of scope) left v.brought v.spots))
    h

-- only these words begin no comparison
pub plain_operand : (scope : Scope) (left : ℕ) (v : View) (word : Word) → ((p : Punctuation) → word ≡ words.Punctuation p → ⊥) → (word ≡ words.Change → ⊥) → ((x : PrefixSign) → word ≡ words.Prefix x → ⊥) → comparison (rules_of scope) left v.brought v.spots ≡ operand_at (rules_of scope) left (inner_operand (rules_of scope) left) (inner_formula (rules_of scope) left) (tok_of word) v.brought v.spots
plain_operand scope left v (words.Punctuation p) a b d = absurd (a p refl)
plain_operand scope left v words.Change a b d = absurd (b refl)
plain_operand scope left v (words.Comparator c) a b d = refl
plain_operand scope left v (words.Unary u) a b d = refl
plain_operand scope left v (words.Binary x) a b d = refl
plain_operand scope left v (words.Statistic s) a b d = refl
plain_operand scope left v (words.Prefix x) a b d = absurd (d x refl)
plain_operand scope left v (words.Connective x) a b d = refl
plain_operand scope left v (words.Numeral s n) a b d = refl
plain_operand scope left v (words.Variable name) a b d = refl
plain_operand scope left v words.Stray a b d = refl
plain_operand scope left v words.Stop a b d = refl

-- a nesting was left where one was taken
kept_by : (a b : Bool) (x y : Unit {0}) (n k : ℕ) (s t u : List Spot) → cond a (cond b (got x n t) (refuse 6 s)) (refuse 2 s) ≡ got y k u → b ≡ true
kept_by true true x y n k s t u e = refl
kept_by true false x y n k s t u e = let z : ◌≡◌ {A = ℕ} 0 1 = cc in absurd (omega arith)
kept_by false b x y n k s t u e = let z : ◌≡◌ {A = ℕ} 0 1 = cc in absurd (omega arith)

opening_left : (left : ℕ) (v u : View) → Follows (opening_way left) v (Ok tt) u → 0 < left
opening_left left v u h =
    let p = passed (opening_way left) v tt u h in
    ltb-true 0 left (kept_by (is_mark Open (first v.spots).tok) (ltb 0 left) tt p.found v.brought u.brought v.spots (rest v.spots) u.spots p.reads)

-- brackets
module _ (left : ℕ) (v : View) where
  abbrev behind_close : PropertyTree → Unit {0} → Reader PropertyTree
  behind_close p _ n s = got (tree.bracketed p) n s

  abbrev behind_formula : PropertyTree → Reader PropertyTree
  behind_formula p n s = and_then (punctuation Close n s) (behind_close p)

  abbrev behind_open : Unit {0} → Reader PropertyTree
  behind_open _ n s = and_then (inner_formula (rules_of v.scope) left n s) behind_formula

  bracket_opened : (a : View) → Follows (opening_way left) v (Ok tt) a → bracketed_by left (inner_formula (rules_of v.scope) left) v.brought v.spots ≡ and_then (formula (rules_of v.scope) (left - 1) a.brought a.spots) behind_formula
  bracket_opened a h =
      let p = passed (opening_way left) v tt a h in
      goes behind_open p.reads ∙ ap (λ (o : Outcome PropertyTree). and_then o behind_formula) (formula_inner (rules_of v.scope) left a.brought a.spots (opening_left left v a h))

  pub bracket_broken_formula : (a w x : View) (e : Breach) → Follows (opening_way left) v (Ok tt) a → Follows (tier_way a.scope (left - 1) 5) a (Err e) w → Follows (bracketed_way v.scope left) v (Err e) x
  bracket_broken_formula a w x e h k = breaks (tier_way v.scope (left - 1) 5) (bracketed_way v.scope left) v a e w x behind_formula (bracket_opened a h) (scoped (λ s. tier_way s (left - 1) 5) a (Err e) w (passed (opening_way left) v tt a h).grew.scope k)

  pub bracket_broken_close : (a b w x : View) (at : ℕ) (e : Breach) → Follows (opening_way left) v (Ok tt) a → Follows (tier_way a.scope (left - 1) 5) a (Ok at) b → Follows (punctuation_way Close) b (Err e) w → Follows (bracketed_way v.scope left) v (Err e) x
  bracket_broken_close a b w x at e h k l =
      let q = passed (tier_way v.scope (left - 1) 5) a at b (scoped (λ s. tier_way s (left - 1) 5) a (Ok at) b (passed (opening_way left) v tt a h).grew.scope k) in
      breaks (punctuation_way Close) (bracketed_way v.scope left) v b e w x (behind_close q.found) (bracket_opened a h ∙ goes behind_formula q.reads) l

  pub bracket_read : (a b w : View) (at : ℕ) → Follows (opening_way left) v (Ok tt) a → Follows (tier_way a.scope (left - 1) 5) a (Ok at) b → Follows (punctuation_way Close) b (Ok tt) w → Follows (bracketed_way v.scope left) v (Ok at) w
  bracket_read a b w at h k l =
      let p = passed (opening_way left) v tt a h in
      let q = passed (tier_way v.scope (left - 1) 5) a at b (scoped (λ s. tier_way s (left - 1) 5) a (Ok at) b (passed (opening_way left) v tt a h).grew.scope k) in
      let r = passed (punctuation_way Close) b tt w l in
      let P = property_of (columns_of v.scope) q.found in
      let here : length a.parts ≡ length v.parts = omega (arith, longer v a [] p.grew) in
      let ps = property_parts (length a.parts) P in
      follows (bracketed_way v.scope left) v at w (record {
        found = tree.bracketed q.found;
        reads = bracket_opened a h ∙ goes behind_formula q.reads ∙ goes (behind_close q.found) r.reads;
        value = q.value ∙ ap (λ (k : ℕ). k + property_size P - 1) here;
        grew =
            subst (λ (k : ℕ). Grown v (property_parts k P) w) here
            (subst (λ (qs : List Part). Grown v qs w) (append-nil ps) (both v a w [] (ps ++ []) p.grew (both a b w ps [] q.grew r.grew)));
      })

-- windows and indices are the same for all columns and magnitudes
lead_common : (scope : Scope) (x : PrefixSign) (n : ℕ) (s : List Spot) → lead (rules_of scope) x n s ≡ lead common_rules x n s
lead_common scope prefixes.Not n s = refl
lead_common scope prefixes.Next n s = refl
lead_common scope prefixes.Eventually n s = refl
lead_common scope prefixes.Always n s = refl

link_common : (scope : Scope) (x : ConnectiveSign) (n : ℕ) (s : List Spot) → link (rules_of scope) x n s ≡ link common_rules x n s
link_common scope connectives.And n s = refl
link_common scope connectives.Or n s = refl
link_common scope connectives.Implies n s = refl
link_common scope connectives.Iff n s = refl
link_common scope connectives.Until n s = refl

taken_by : (b : Bool) (x y : Unit {0}) (n k : ℕ) (s t u : List Spot) → cond b (got x n t) (refuse 6 s) ≡ got y k u → (b ≡ true) × (k ≡ n)
taken_by true x y n k s t u e = (refl, cc)
taken_by false x y n k s t u e = let z : ◌≡◌ {A = ℕ} 0 1 = cc in absurd (omega arith)

pub sign_taken : (left : ℕ) (v u : View) → Follows (prefix_sign_way left) v (Ok tt) u → (0 < left) × (u.brought ≡ suc v.brought)
sign_taken left v u h =
    let p = passed (prefix_sign_way left) v tt u h in
    let t = taken_by (ltb 0 left && leb (suc v.brought) 128) tt p.found (suc v.brought) u.brought v.spots (rest v.spots) u.spots p.reads in
    (ltb-true 0 left (and_parts (ltb 0 left) (leb (suc v.brought) 128) t.0).0, t.1)

-- a prefix and its operand
module _ (left : ℕ) (x : PrefixSign) (v : View) where
  abbrev behind_lead : Lead → Reader PropertyTree
  behind_lead l n s = and_then (inner_operand (rules_of v.scope) left n s) (λ p n s. got (tree.prefixed l p) n s)

  abbrev behind_sign : Unit {0} → Reader PropertyTree
  behind_sign _ n s = and_then (lead (rules_of v.scope) x n s) behind_lead

  -- the prefix was read, and stands before its operand
  pub record Led (y : Prefix) (u : View) : Type 0 where
    pub found : Lead
    pub reads : prefixed_by (rules_of v.scope) left x (inner_operand (rules_of v.scope) left) v.brought v.spots ≡ and_then (operand (rules_of v.scope) (left - 1) u.brought u.spots) (λ p n s. got (tree.prefixed found p) n s)
    pub grew : Grown v [] u
    pub value : y ≡ prefix_of found

  pub led : (a u : View) (y : Prefix) → Follows (prefix_sign_way left) v (Ok tt) a → Follows (lead_way x) a (Ok y) u → Led y u
  led a u y h k =
      let p = passed (prefix_sign_way left) v tt a h in
      let q = passed (lead_way x) a y u k in
      record {
        found = q.found;
        reads =
            goes behind_sign p.reads
            ∙ goes behind_lead (lead_common v.scope x a.brought a.spots ∙ q.reads)
            ∙ ap (λ (o : Outcome PropertyTree). and_then o (λ p n s. got (tree.prefixed q.found p) n s)) (operand_inner (rules_of v.scope) left u.brought u.spots (sign_taken left v a h).0);
        grew = both v a u [] [] p.grew q.grew;
        value = q.value;
      }

  pub prefix_broken : (u w z : View) (y : Prefix) (e : Breach) → Led y u → Follows (operand_way u.scope (left - 1)) u (Err e) w → Follows (prefixed_way v.scope left x) v (Err e) z
  prefix_broken u w z y e l h = breaks (operand_way v.scope (left - 1)) (prefixed_way v.scope left x) v u e w z (λ p n s. got (tree.prefixed l.found p) n s) l.reads (scoped (λ s. operand_way s (left - 1)) u (Err e) w l.grew.scope h)

  pub prefix_read : (u b w : View) (y : Prefix) (inner at : ℕ) → Led y u → Follows (operand_way u.scope (left - 1)) u (Ok inner) b → w ≡ grown b (part.Prefix y ∷ []) b.brought b.spots → at ≡ length b.parts → Follows (prefixed_way v.scope left x) v (Ok at) w
  prefix_read u b w y inner at l h written index =
      let q = passed (operand_way v.scope (left - 1)) u inner b (scoped (λ s. operand_way s (left - 1)) u (Ok inner) b l.grew.scope h) in
      let P = property_of (columns_of v.scope) q.found in
      let own = part.Prefix y ∷ [] in
      let here : length u.parts ≡ length v.parts = omega (arith, longer v u [] l.grew) in
      let ps = property_parts (length u.parts) P in
      let all = both v u w [] (ps ++ own) l.grew (both u b w ps own q.grew (wrote b w own b.brought b.spots written)) in
      follows (prefixed_way v.scope left x) v at w (record {
        found = tree.prefixed l.found q.found;
        reads = l.reads ∙ goes (λ p n s. got (tree.prefixed l.found p) n s) q.reads ∙ ap (λ (z : View). got (tree.prefixed l.found q.found) z.brought z.spots) (sym written);
        value = omega (arith, index, here, longer u b ps q.grew, length_property_parts P (length u.parts));
        grew = subst (λ (k : ℕ). Grown v (property_parts k P ++ (part.Prefix (prefix_of l.found) ∷ [])) w) here (subst (λ (z : Prefix). Grown v (ps ++ (part.Prefix z ∷ [])) w) l.value all);
      })

-- a connective and its right operand
module _ (left level : ℕ) (x : ConnectiveSign) (v : View) where
  abbrev inner : Reader PropertyTree
  inner n s = tier (rules_of v.scope) (operand (rules_of v.scope) left) level n s

  abbrev behind_link : PropertyTree → Link → Reader PropertyTree
  behind_link p l n s = and_then (inner n s) (λ q n s. got (tree.joined l p q) n s)

  abbrev behind_bring : PropertyTree → Unit {0} → Reader PropertyTree
  behind_bring p _ n s = and_then (link (rules_of v.scope) x n (rest s)) (behind_link p)

  -- the connective was read, and stands before its right operand
  pub record Linked (y : Connective) (u : View) : Type 0 where
    pub found : Link
    pub reads : (p : PropertyTree) → linked (rules_of v.scope) (tier (rules_of v.scope) (operand (rules_of v.scope) left) level) p x v.brought v.spots ≡ behind_link p found u.brought u.spots
    pub grew : Grown v [] u
    pub value : y ≡ connective_of found

  pub joins : (a b u : View) (y : Connective) → Follows bring_way v (Ok tt) a → b ≡ moved a a.brought (rest a.spots) → Follows (link_way x) b (Ok y) u → Linked y u
  joins a b u y brought on h =
      let p = passed bring_way v tt a brought in
      let q = passed (link_way x) b y u h in
      record {
        found = q.found;
        reads = λ z.
            goes (behind_bring z) p.reads
            ∙ ap (λ (w : View). and_then (link (rules_of v.scope) x w.brought w.spots) (behind_link z)) (sym on)
            ∙ goes (behind_link z) (link_common v.scope x b.brought b.spots ∙ q.reads);
        grew = both v a u [] [] p.grew (both a b u [] [] (unmoved a b a.brought (rest a.spots) on) q.grew);
        value = q.value;
      }

  pub linked_broken : (u w z : View) (y : Connective) (e : Breach) (left_at : ℕ) (p : PropertyTree) → Linked y u → Follows (tier_way u.scope left level) u (Err e) w → Follows (linked_way v.scope left level p x left_at) v (Err e) z
  linked_broken u w z y e left_at p l h = breaks (tier_way v.scope left level) (linked_way v.scope left level p x left_at) v u e w z (λ q n s. got (tree.joined l.found p q) n s) (l.reads p) (scoped (λ s. tier_way s left level) u (Err e) w l.grew.scope h)

  pub linked_read : (u b w : View) (y : Connective) (right at left_at : ℕ) (p : PropertyTree) → Linked y u → Follows (tier_way u.scope left level) u (Ok right) b → w ≡ grown b (part.Connective y left_at ∷ []) b.brought b.spots → at ≡ length b.parts → Follows (linked_way v.scope left level p x left_at) v (Ok at) w
  linked_read u b w y right at left_at p l h written index =
      let q = passed (tier_way v.scope left level) u right b (scoped (λ s. tier_way s left level) u (Ok right) b l.grew.scope h) in
      let Q = property_of (columns_of v.scope) q.found in
      let own = part.Connective y left_at ∷ [] in
      let here : length u.parts ≡ length v.parts = omega (arith, longer v u [] l.grew) in
      let ps = property_parts (length u.parts) Q in
      let all = both v u w [] (ps ++ own) l.grew (both u b w ps own q.grew (wrote b w own b.brought b.spots written)) in
      follows (linked_way v.scope left level p x left_at) v at w (record {
        found = tree.joined l.found p q.found;
        reads = l.reads p ∙ goes (λ q n s. got (tree.joined l.found p q) n s) q.reads ∙ ap (λ (z : View). got (tree.joined l.found p q.found) z.brought z.spots) (sym written);
        value = omega (arith, index, here, longer u b ps q.grew, length_property_parts Q (length u.parts));
        grew = subst (λ (k : ℕ). Grown v (property_parts k Q ++ (part.Connective (connective_of l.found) left_at ∷ [])) w) here (subst (λ (z : Connective). Grown v (ps ++ (part.Connective z left_at ∷ [])) w) l.value all);
      })
