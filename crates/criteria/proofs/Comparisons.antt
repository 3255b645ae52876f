-- The calls that read a comparison, one after the other, are the grammar's reading of it.
use Rattle.std.proofs.Common.{◌≡◌, ℕ, zero, suc, pred, ◌+◌, ◌-◌, false, List, [], ◌∷◌, ◌++◌, length, Some, None, Ok, Err, Option, Result, sym, refl, ap, ◌∙◌, subst, arith}
use Rattle.std.proofs.lemmas.List.{append_assoc, append-nil}
use Rattle.parts.specs.Order.{measure_parts, measure_size, property_parts, property_size}
use Rattle.parts.specs.declared.kinds.Comparator.{Comparator}
use Rattle.parts.specs.declared.kinds.Part.{Part}
use Rattle.parts.specs.declared.kinds.Part.TheVariants as part
use Rattle.parts.specs.declared.kinds.Quantity.{Quantity}
use Rattle.parts.specs.declared.kinds.Quantity.TheVariants.{Value, Change}
use Rattle.tokens.specs.Tokens.{Spot, Tok, comparator}
use Rattle.tokens.specs.declared.words.Punctuation.TheVariants.{Close}
use Rattle.grammar.specs.Meanings.{Columns, measure_of, property_of}
use Rattle.grammar.specs.Reading.{Reader, got, and_then, bring, change_comparison, comparator_of, compared, compared_by, comparison, first, measure, opening, punctuation, rest}
use Rattle.grammar.specs.Steps.{Rules}
use Rattle.grammar.specs.Trees as tree
use Rattle.grammar.specs.Trees.{MeasureTree, PropertyTree}
use Rattle.criteria.specs.States.{View, Follows, grown, moved}
use Rattle.criteria.specs.Ways.{behind_left, bring_way, change_comparison_way, columns_of, compared_way, comparison_way, measure_way, opening_way, proposing, punctuation_way, right_size, rightward, rules_of}
use Rattle.criteria.specs.declared.fault.Breach.{Breach}
use Rattle.criteria.specs.declared.reader.operands.Operand.{Operand}
use Rattle.criteria.specs.declared.scope.Scope.{Scope}
use Rattle.criteria.proofs.Measures.{measure_length}
use Rattle.criteria.proofs.Passing.{Grown, both, breaks, follows, goes, longer, passed, refuses, same_got, scoped, stopped, then_got, unmoved, wrote}

-- a comparison from its comparator on
module _ (left : ℕ) (q : Quantity) (m : MeasureTree) (left_at : ℕ) (c : Comparator) (v : View) where
  abbrev make : MeasureTree → Reader PropertyTree
  make r n s = got (tree.compare q c m r) n s

  abbrev behind_comparator : Unit {0} → Reader PropertyTree
  behind_comparator _ n s = and_then (measure (rules_of v.scope) left false n (rest s)) make

  -- the comparator was read, and stands before the right measure
  pub record Begun (b : View) : Type 0 where
    pub reads : compared (rules_of v.scope) left q m v.brought v.spots ≡ and_then (measure (rules_of v.scope) left false b.brought b.spots) make
    pub grew : Grown v [] b

  pub begun : (a b : View) → comparator c ≡ (first v.spots).tok → Follows bring_way v (Ok tt) a → b ≡ moved a a.brought (rest a.spots) → Begun b
  begun a b token brought on =
      let p = passed bring_way v tt a brought in
      record {
        reads =
            ap (λ (t : Tok). compared_by (rules_of v.scope) left q m (comparator_of t) v.brought v.spots) (sym token)
            ∙ goes behind_comparator p.reads
            ∙ ap (λ (y : View). and_then (measure (rules_of v.scope) left false y.brought y.spots) make) (sym on);
        grew = both v a b [] [] p.grew (unmoved a b a.brought (rest a.spots) on);
      }

  pub compared_broken : (b w x : View) (e : Breach) → Begun b → Follows (measure_way b.scope left false) b (Err e) w → Follows (compared_way v.scope left q m left_at) v (Err e) x
  compared_broken b w x e o right = breaks (measure_way v.scope left false) (compared_way v.scope left q m left_at) v b e w x make o.reads (scoped (λ s. measure_way s left false) b (Err e) w o.grew.scope right)

  pub compared_read : (b u w : View) (o : Operand) (at : ℕ) → Begun b → Follows (measure_way b.scope left false) b (Ok o) u → w ≡ grown u (part.Compare c q left_at ∷ []) u.brought u.spots → at ≡ length u.parts → Follows (compared_way v.scope left q m left_at) v (Ok at) w
  compared_read b u w o at begins right written index =
      let inner = passed (measure_way v.scope left false) b o u (scoped (λ s. measure_way s left false) b (Ok o) u begins.grew.scope right) in
      let N = measure_of (columns_of v.scope) inner.found in
      let own = part.Compare c q left_at ∷ [] in
      let here : length b.parts ≡ length v.parts = omega (arith, longer v b [] begins.grew) in
      follows (compared_way v.scope left q m left_at) v at w (record {
        found = tree.compare q c m inner.found;
        reads = begins.reads ∙ goes make inner.reads ∙ ap (λ (y : View). got (tree.compare q c m inner.found) y.brought y.spots) (sym written);
        value = omega (arith, index, here, longer b u (measure_parts (length b.parts) N) inner.grew, measure_length N (length b.parts));
        grew = subst (λ (k : ℕ). Grown v (measure_parts k N ++ own) w) here (both v b w [] (measure_parts (length b.parts) N ++ own) begins.grew (both b u w (measure_parts (length b.parts) N) own inner.grew (wrote u w own u.brought u.spots written)));
      })

-- behind a left operand, whose parts are ps, stand the other parts of this tree
pub record Fits (columns : Columns) (ps : List Part) (left_at base at : ℕ) (a : PropertyTree) : Type 0 where
  pub parts : property_parts base (property_of columns a) ≡ ps ++ behind_left left_at at (property_of columns a)
  pub size : base + property_size (property_of columns a) - 1 ≡ at + right_size (property_of columns a)

-- a call behind a left operand ends a reading that began with that operand
pub right_on : (columns : Columns) (left_at : ℕ) (read whole : Reader PropertyTree) (v u : View) (r : Result ℕ Breach) (w : View) (ps : List Part) → Grown v ps u → whole v.brought v.spots ≡ read u.brought u.spots → ((a : PropertyTree) (n : ℕ) (s : List Spot) → read u.brought u.spots ≡ got a n s → Fits columns ps left_at (length v.parts) (length u.parts) a) → Follows (rightward columns left_at read) u r w → Follows (proposing columns whole) v r w
right_on columns left_at read whole v u (Ok x) w ps grew same fits h =
    let p = passed (rightward columns left_at read) u x w h in
    let f = fits p.found w.brought w.spots p.reads in
    follows (proposing columns whole) v x w (record {
      found = p.found;
      reads = same ∙ p.reads;
      value = p.value ∙ sym f.size;
      grew = subst (λ (qs : List Part). Grown v qs w) (sym f.parts) (both v u w ps (behind_left left_at (length u.parts) (property_of columns p.found)) grew p.grew);
    })
right_on columns left_at read whole v u (Err b) w ps grew same fits h =
    let p = stopped (rightward columns left_at read) u b w h in
    refuses (proposing columns whole) v b w (record { left = p.left; reads = same ∙ p.reads })

compared_found : (rules : Rules) (left : ℕ) (q : Quantity) (l : MeasureTree) (o : Option Comparator) (n : ℕ) (s : List Spot) (a : PropertyTree) (k : ℕ) (u : List Spot) → compared_by rules left q l o n s ≡ got a k u → (c : Comparator) × (r : MeasureTree) × (a ≡ tree.compare q c l r)
compared_found rules left q l None n s a k u e = let z : ◌≡◌ {A = ℕ} 0 1 = cc in absurd (omega arith)
compared_found rules left q l (Some c) n s a k u e =
    let make : MeasureTree → Reader PropertyTree = λ r n s. got (tree.compare q c l r) n s in
    let p = then_got (bring rules n s) (λ _ n s. and_then (measure rules left false n (rest s)) make) a k u e in
    let inner = then_got (measure rules left false p.1 (rest p.2)) make a k u p.3 in
    (c, inner.0, same_got (tree.compare q c l inner.0) a inner.1 k inner.2 u inner.3)

compare_fits : (columns : Columns) (q : Quantity) (c : Comparator) (l r : MeasureTree) (left_at base at : ℕ) → at ≡ base + measure_size (measure_of columns l) → left_at ≡ base + measure_size (measure_of columns l) - 1 → Fits columns (measure_parts base (measure_of columns l)) left_at base at (tree.compare q c l r)
compare_fits columns q c l r left_at base at behind here =
    let L = measure_of columns l in
    let N = measure_of columns r in
    let before = measure_parts base L in
    record {
      parts =
          append_assoc before (measure_parts (base + measure_size L) N) (part.Compare c q (base + measure_size L - 1) ∷ [])
          ∙ ap (λ (k : ℕ). before ++ (measure_parts k N ++ (part.Compare c q (base + measure_size L - 1) ∷ []))) (sym behind)
          ∙ ap (λ (k : ℕ). before ++ (measure_parts at N ++ (part.Compare c q k ∷ []))) (sym here);
      size = omega arith;
    }

-- behind a left measure
compared_on : (scope : Scope) (left : ℕ) (q : Quantity) (m : MeasureTree) (left_at : ℕ) (whole : Reader PropertyTree) (v u : View) (r : Result ℕ Breach) (w : View) → Grown v (measure_parts (length v.parts) (measure_of (columns_of scope) m)) u → left_at ≡ length v.parts + measure_size (measure_of (columns_of scope) m) - 1 → whole v.brought v.spots ≡ compared (rules_of scope) left q m u.brought u.spots → Follows (compared_way scope left q m left_at) u r w → Follows (proposing (columns_of scope) whole) v r w
compared_on scope left q m left_at whole v u r w grew place same h =
    let M = measure_of (columns_of scope) m in
    let here = length v.parts in
    right_on (columns_of scope) left_at (compared (rules_of scope) left q m) whole v u r w (measure_parts here M) grew same
    (λ a n s e.
    let f = compared_found (rules_of scope) left q m (comparator_of (first u.spots).tok) u.brought u.spots a n s e in
    subst (λ (a : PropertyTree). Fits (columns_of scope) (measure_parts here M) left_at here (length u.parts) a) (sym f.2)
    (compare_fits (columns_of scope) q f.0 m f.1 left_at here (length u.parts) (omega (arith, longer v u (measure_parts here M) grew, measure_length M here)) place))
    h

pub comparison_read : (left : ℕ) (v u : View) (o : Operand) (r : Result ℕ Breach) (w : View) → Follows (measure_way v.scope left false) v (Ok o) u → ((m : MeasureTree) → Follows (compared_way u.scope left Value m o.at) u r w) → Follows (comparison_way v.scope left) v r w
comparison_read left v u o r w f h =
    let scope = v.scope in
    let p = passed (measure_way scope left false) v o u f in
    compared_on scope left Value p.found o.at (comparison (rules_of scope) left) v u r w p.grew (ap (λ (x : Operand). x.at) p.value) (goes (compared (rules_of scope) left Value) p.reads) (scoped (λ s. compared_way s left Value p.found o.at) u r w p.grew.scope (h p.found))

pred_less : (n : ℕ) → pred n ≡ n - 1
pred_less zero = refl
pred_less (suc n) = omega arith

-- the change of a measure, in brackets
module _ (left : ℕ) (v : View) where
  abbrev behind_close : MeasureTree → Unit {0} → Reader PropertyTree
  behind_close m _ n s = compared (rules_of v.scope) left Change m n s

  abbrev behind_measure : MeasureTree → Reader PropertyTree
  behind_measure m n s = and_then (punctuation Close n s) (behind_close m)

  abbrev behind_opening : Unit {0} → Reader PropertyTree
  behind_opening _ n s = and_then (measure (rules_of v.scope) (pred left) false n s) behind_measure

  -- the bracket was opened, and stands before the measure
  pub record Opened (b : View) : Type 0 where
    pub reads : change_comparison (rules_of v.scope) left v.brought v.spots ≡ and_then (measure (rules_of v.scope) (left - 1) false b.brought b.spots) behind_measure
    pub grew : Grown v [] b

  pub opened : (a b : View) → a ≡ moved v v.brought (rest v.spots) → Follows (opening_way left) a (Ok tt) b → Opened b
  opened a b on opens =
      let p = passed (opening_way left) a tt b opens in
      record {
        reads =
            ap (λ (y : View). and_then (opening left y.brought y.spots) behind_opening) (sym on)
            ∙ goes behind_opening p.reads
            ∙ ap (λ (k : ℕ). and_then (measure (rules_of v.scope) k false b.brought b.spots) behind_measure) (pred_less left);
        grew = both v a b [] [] (unmoved v a v.brought (rest v.spots) on) p.grew;
      }

  pub change_unmeasured : (b w x : View) (e : Breach) → Opened b → Follows (measure_way b.scope (left - 1) false) b (Err e) w → Follows (change_comparison_way v.scope left) v (Err e) x
  change_unmeasured b w x e o h = breaks (measure_way v.scope (left - 1) false) (change_comparison_way v.scope left) v b e w x behind_measure o.reads (scoped (λ s. measure_way s (left - 1) false) b (Err e) w o.grew.scope h)

  -- the measure was read, and stands before its closing bracket
  pub record Measured (o : Operand) (u : View) : Type 0 where
    pub found : MeasureTree
    pub reads : change_comparison (rules_of v.scope) left v.brought v.spots ≡ and_then (punctuation Close u.brought u.spots) (behind_close found)
    pub grew : Grown v (measure_parts (length v.parts) (measure_of (columns_of v.scope) found)) u
    pub place : o.at ≡ length v.parts + measure_size (measure_of (columns_of v.scope) found) - 1

  pub measured : (b u : View) (o : Operand) → Opened b → Follows (measure_way b.scope (left - 1) false) b (Ok o) u → Measured o u
  measured b u o opens inner =
      let q = passed (measure_way v.scope (left - 1) false) b o u (scoped (λ s. measure_way s (left - 1) false) b (Ok o) u opens.grew.scope inner) in
      let M = measure_of (columns_of v.scope) q.found in
      let here : length b.parts ≡ length v.parts = omega (arith, longer v b [] opens.grew) in
      record {
        found = q.found;
        reads = opens.reads ∙ goes behind_measure q.reads;
        grew = subst (λ (k : ℕ). Grown v (measure_parts k M) u) here (both v b u [] (measure_parts (length b.parts) M) opens.grew q.grew);
        place = ap (λ (x : Operand). x.at) q.value ∙ ap (λ (k : ℕ). k + measure_size M - 1) here;
      }

  pub change_broken : (u w x : View) (o : Operand) (e : Breach) → Measured o u → Follows (punctuation_way Close) u (Err e) w → Follows (change_comparison_way v.scope left) v (Err e) x
  change_broken u w x o e m h = breaks (punctuation_way Close) (change_comparison_way v.scope left) v u e w x (behind_close m.found) m.reads h

  pub change_read : (u t : View) (o : Operand) (r : Result ℕ Breach) (w : View) → Measured o u → Follows (punctuation_way Close) u (Ok tt) t → ((m : MeasureTree) → Follows (compared_way t.scope left Change m o.at) t r w) → Follows (change_comparison_way v.scope left) v r w
  change_read u t o r w m closes h =
      let p = passed (punctuation_way Close) u tt t closes in
      let M = measure_of (columns_of v.scope) m.found in
      let ps = measure_parts (length v.parts) M in
      compared_on v.scope left Change m.found o.at (change_comparison (rules_of v.scope) left) v t r w
      (subst (λ (qs : List Part). Grown v qs t) (append-nil ps) (both v u t ps [] m.grew p.grew))
      m.place (m.reads ∙ goes (behind_close m.found) p.reads) (scoped (λ s. compared_way s left Change m.found o.at) t r w (p.grew.scope ∙ m.grew.scope) (h m.found))
