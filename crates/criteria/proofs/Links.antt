-- The connectives of a level, read one after the other, are the grammar's reading of them.
use Rattle.std.proofs.Common.{◌≡◌, ℕ, zero, suc, ◌+◌, ◌-◌, ◌<◌, ◌≤◌, List, [], ◌∷◌, ◌++◌, length, Some, None, Ok, Err, Option, Result, sym, refl, ap, ◌∙◌, subst, arith}
use Rattle.std.proofs.lemmas.List.{append_assoc}
use Rattle.parts.specs.Order.{property_parts, property_size}
use Rattle.parts.specs.declared.kinds.Part.{Part}
use Rattle.parts.specs.declared.kinds.Part.TheVariants as part
use Rattle.parts.proofs.TreesOfParts.{length_property_parts}
use Rattle.tokens.specs.Tokens.{Spot}
use Rattle.tokens.specs.declared.words.ConnectiveSign.{ConnectiveSign}
use Rattle.grammar.specs.Meanings.{Columns, connective_of, property_of}
use Rattle.grammar.specs.Reading.{Outcome, Reader, got, fault, and_then, bring, first, link, linked, links, operand, rest, sign_at, tier}
use Rattle.grammar.specs.Steps.{Rules}
use Rattle.grammar.specs.Trees as tree
use Rattle.grammar.specs.Trees.{Link, PropertyTree}
use Rattle.criteria.specs.States.{View, Follows, image, moved}
use Rattle.criteria.specs.Ways.{Ends, behind_left, columns_of, linked_way, links_way, operand_way, proposing, rules_of, tier_way}
use Rattle.criteria.specs.declared.fault.Breach.{Breach}
use Rattle.criteria.specs.declared.scope.Scope.{Scope}
use Rattle.criteria.proofs.Comparisons.{Fits}
use Rattle.criteria.proofs.Forward.{linked_forward, some_left}
use Rattle.criteria.proofs.Passing.{Grown, both, breaks, follows, goes, grew, longer, passed, reads_as, same_got, scoped, then_got}

linked_found : (rules : Rules) (inner : Reader PropertyTree) (p : PropertyTree) (x : ConnectiveSign) (n : ℕ) (s : List Spot) (a : PropertyTree) (k : ℕ) (u : List Spot) → linked rules inner p x n s ≡ got a k u → (l : Link) × (q : PropertyTree) × (a ≡ tree.joined l p q)
linked_found rules inner p x n s a k u e =
    let behind : Link → Reader PropertyTree = λ l n s. and_then (inner n s) (λ q n s. got (tree.joined l p q) n s) in
    let f = then_got (bring rules n s) (λ _ n s. and_then (link rules x n (rest s)) behind) a k u e in
    let g = then_got (link rules x f.1 (rest f.2)) behind a k u f.3 in
    let h = then_got (inner g.1 g.2) (λ q n s. got (tree.joined g.0 p q) n s) a k u g.3 in
    (g.0, h.0, same_got (tree.joined g.0 p h.0) a h.1 k h.2 u h.3)

joined_fits : (columns : Columns) (l : Link) (p q : PropertyTree) (left_at base at : ℕ) → at ≡ base + property_size (property_of columns p) → left_at ≡ base + property_size (property_of columns p) - 1 → Fits columns (property_parts base (property_of columns p)) left_at base at (tree.joined l p q)
joined_fits columns l p q left_at base at behind here =
    let P = property_of columns p in
    let Q = property_of columns q in
    let c = connective_of l in
    let before = property_parts base P in
    record {
      parts =
          append_assoc before (property_parts (base + property_size P) Q) (part.Connective c (base + property_size P - 1) ∷ [])
          ∙ ap (λ (k : ℕ). before ++ (property_parts k Q ++ (part.Connective c (base + property_size P - 1) ∷ []))) (sym behind)
          ∙ ap (λ (k : ℕ). before ++ (property_parts at Q ++ (part.Connective c k ∷ []))) (sym here);
      size = omega arith;
    }

-- one link more, or none
links_on : (most : ℕ) (rules : Rules) (level : ℕ) (inner : Reader PropertyTree) (p : PropertyTree) (n : ℕ) (s : List Spot) (x : ConnectiveSign) → Some x ≡ sign_at level (first s).tok → length s ≤ most → (m : ℕ) × (most ≡ suc m) × (links most rules level inner p n s ≡ and_then (linked rules inner p x n s) (links m rules level inner))
unfolding links
links_on zero rules level inner p n s x e h = absurd (omega (arith, some_left level x s e, h))
links_on (suc m) rules level inner p n s x e h = (m, refl, ap (λ (o : Option ConnectiveSign). elim o [ None ↦ got p n s | Some x ↦ and_then (linked rules inner p x n s) (links m rules level inner) ]) (sym e))

links_none : (most : ℕ) (rules : Rules) (level : ℕ) (inner : Reader PropertyTree) (p : PropertyTree) (n : ℕ) (s : List Spot) → None ≡ sign_at level (first s).tok → links most rules level inner p n s ≡ got p n s
unfolding links
links_none zero rules level inner p n s e = refl
links_none (suc m) rules level inner p n s e = ap (λ (o : Option ConnectiveSign). elim o [ None ↦ got p n s | Some x ↦ and_then (linked rules inner p x n s) (links m rules level inner) ]) (sym e)

-- the whole reading goes on from here, behind the tree that was read so far
pub record Reached (left level : ℕ) (p : PropertyTree) (v : View) (at : ℕ) (w : View) : Type 0 where
  pub most : ℕ
  pub found : PropertyTree
  pub enough : length w.spots ≤ most
  pub reads : (links_way v.scope left level p).read v.brought v.spots ≡ links most (rules_of v.scope) level (tier (rules_of v.scope) (operand (rules_of v.scope) left) (level - 1)) found w.brought w.spots
  pub grew : Grown v (property_parts (length v.parts) (property_of (columns_of v.scope) found)) w
  pub place : at ≡ length v.parts + property_size (property_of (columns_of v.scope) found) - 1

module _ (left level : ℕ) (p : PropertyTree) (v : View) (at : ℕ) (w : View) (r : Reached left level p v at w) where
  pub reached_more : (x : ConnectiveSign) (next : ℕ) (u : View) → Some x ≡ sign_at level (first w.spots).tok → Follows (linked_way w.scope left (level - 1) r.found x at) w (Ok next) u → Reached left level p v next u
  reached_more x next u sign h =
      let rules = rules_of v.scope in
      let inner = tier rules (operand rules left) (level - 1) in
      let base = length v.parts in
      let P = property_of (columns_of v.scope) r.found in
      let q = passed (linked_way v.scope left (level - 1) r.found x at) w next u (scoped (λ s. linked_way s left (level - 1) r.found x at) w (Ok next) u r.grew.scope h) in
      let on = links_on r.most rules level inner r.found w.brought w.spots x sign r.enough in
      let f = linked_found rules inner r.found x w.brought w.spots q.found u.brought u.spots q.reads in
      let fits : Fits (columns_of v.scope) (property_parts base P) at base (length w.parts) q.found =
      subst (λ (a : PropertyTree). Fits (columns_of v.scope) (property_parts base P) at base (length w.parts) a) (sym f.2)
      (joined_fits (columns_of v.scope) f.0 r.found f.1 at base (length w.parts) (omega (arith, longer v w (property_parts base P) r.grew, length_property_parts P base)) r.place) in
      record {
        most = on.0;
        found = q.found;
        enough = omega (arith, r.enough, on.1, linked_forward rules left (level - 1) level r.found x w.brought w.spots q.found u.brought u.spots sign q.reads);
        reads = r.reads ∙ on.2 ∙ goes (links on.0 rules level inner) q.reads;
        grew = subst (λ (qs : List Part). Grown v qs u) (sym fits.parts) (both v w u (property_parts base P) (behind_left at (length w.parts) (property_of (columns_of v.scope) q.found)) r.grew q.grew);
        place = q.value ∙ sym fits.size;
      }

  pub reached_broken : (x : ConnectiveSign) (e : Breach) (u z : View) → Some x ≡ sign_at level (first w.spots).tok → Follows (linked_way w.scope left (level - 1) r.found x at) w (Err e) u → Follows (links_way v.scope left level p) v (Err e) z
  reached_broken x e u z sign h =
      let rules = rules_of v.scope in
      let inner = tier rules (operand rules left) (level - 1) in
      let on = links_on r.most rules level inner r.found w.brought w.spots x sign r.enough in
      breaks (linked_way v.scope left (level - 1) r.found x at) (links_way v.scope left level p) v w e u z (links on.0 rules level inner) (r.reads ∙ on.2) (scoped (λ s. linked_way s left (level - 1) r.found x at) w (Err e) u r.grew.scope h)

  pub reached_all : None ≡ sign_at level (first w.spots).tok → Follows (links_way v.scope left level p) v (Ok at) w
  reached_all none = follows (links_way v.scope left level p) v at w (record {
    found = r.found;
    reads = r.reads ∙ links_none r.most (rules_of v.scope) level (tier (rules_of v.scope) (operand (rules_of v.scope) left) (level - 1)) r.found w.brought w.spots none;
    value = r.place;
    grew = r.grew;
  })

-- a link leaves fewer tokens
pub link_forward : (scope : Scope) (left level : ℕ) (x : ConnectiveSign) (at next : ℕ) (w u : View) → Some x ≡ sign_at level (first w.spots).tok → ((p : PropertyTree) → Follows (linked_way scope left (level - 1) p x at) w (Ok next) u) → (p : PropertyTree) → length u.spots < length w.spots
link_forward scope left level x at next w u sign h p =
    let q = passed (linked_way scope left (level - 1) p x at) w next u (h p) in
    linked_forward (rules_of scope) left (level - 1) level p x w.brought w.spots q.found u.brought u.spots sign q.reads

-- a level's operands, and then its connectives
tier_step : (rules : Rules) (read : Reader PropertyTree) (level : ℕ) (n : ℕ) (s : List Spot) → (level ≡ 0 → ⊥) → tier rules read level n s ≡ and_then (tier rules read (level - 1) n s) (λ p n s. links (length s) rules level (tier rules read (level - 1)) p n s)
unfolding tier
tier_step rules read zero n s h = absurd (h refl)
tier_step rules read (suc level) n s h =
    let e : level ≡ suc level - 1 = omega arith in
    ap (λ (k : ℕ). and_then (tier rules read k n s) (λ p n s. links (length s) rules (suc level) (tier rules read k) p n s)) e

tier_none : (rules : Rules) (read : Reader PropertyTree) (level : ℕ) (n : ℕ) (s : List Spot) → level ≡ 0 → read n s ≡ tier rules read level n s
unfolding tier
tier_none rules read zero n s h = refl
tier_none rules read (suc level) n s h = absurd (omega arith)

pub tier_operand : (scope : Scope) (left level : ℕ) (v : View) (r : Result ℕ Breach) (w : View) → level ≡ 0 → Follows (operand_way scope left) v r w → Follows (tier_way scope left level) v r w
tier_operand scope left level v r w e h =
    reads_as (operand (rules_of scope) left) (tier (rules_of scope) (operand (rules_of scope) left) level) (λ at p. at + property_size (property_of (columns_of scope) p) - 1) (λ at p. property_parts at (property_of (columns_of scope) p)) v r w
    (tier_none (rules_of scope) (operand (rules_of scope) left) level v.brought v.spots e) h

moved_image : (columns : Columns) (f g : Reader PropertyTree) (v : View) (n : ℕ) (s : List Spot) (o : Outcome PropertyTree) → image (proposing columns f) (moved v n s) o ≡ image (proposing columns g) v o
moved_image columns f g v n s (got a k u) = refl
moved_image columns f g v n s (fault number place u) = refl

module _ (left level : ℕ) (some : level ≡ 0 → ⊥) (v : View) where
  abbrev behind_tier : PropertyTree → Reader PropertyTree
  behind_tier p n s = links (length s) (rules_of v.scope) level (tier (rules_of v.scope) (operand (rules_of v.scope) left) (level - 1)) p n s

  pub tier_broken : (w x : View) (e : Breach) → Follows (tier_way v.scope left (level - 1)) v (Err e) w → Follows (tier_way v.scope left level) v (Err e) x
  tier_broken w x e h = breaks (tier_way v.scope left (level - 1)) (tier_way v.scope left level) v v e w x behind_tier (tier_step (rules_of v.scope) (operand (rules_of v.scope) left) level v.brought v.spots some) h

  pub tier_read : (u : View) (at : ℕ) (r : Result ℕ Breach) (w : View) → Follows (tier_way v.scope left (level - 1)) v (Ok at) u → ((p : PropertyTree) (x : View) → Ends (columns_of x.scope) x p u at → Follows (links_way x.scope left level p) x r w) → Follows (tier_way v.scope left level) v r w
  tier_read u at r w h k =
      let p = passed (tier_way v.scope left (level - 1)) v at u h in
      let here = length v.parts in
      let ps = property_parts here (property_of (columns_of v.scope) p.found) in
      let x = moved v u.brought u.spots in
      k p.found x (record { state = grew v u ps p.grew; place = p.value })
      ∙ moved_image (columns_of v.scope) (links_way v.scope left level p.found).read (tier_way v.scope left level).read v u.brought u.spots ((links_way v.scope left level p.found).read u.brought u.spots)
      ∙ ap (λ (o : Outcome PropertyTree). image (tier_way v.scope left level) v o) (sym (tier_step (rules_of v.scope) (operand (rules_of v.scope) left) level v.brought v.spots some ∙ goes behind_tier p.reads))
