-- The calls that read a measure, one after the other, are the grammar's reading of it.
use Rattle.std.proofs.Common.{◌≡◌, ℕ, zero, suc, ◌+◌, ◌-◌, Bool, true, false, cond, List, [], ◌∷◌, ◌++◌, length, pos, nat_abs, Ok, Err, Result, sym, refl, ap, ◌∙◌, subst, arith}
use Rattle.std.proofs.lemmas.List.{length-append}
use Rattle.parts.specs.Bounds.{binary_bound, binary_kept, bound_of, if_kept, statistic_bound, statistic_kept, unary_bound, unary_kept}
use Rattle.parts.specs.Formulas as formula
use Rattle.parts.specs.Formulas.{Measure}
use Rattle.parts.specs.Order.{measure_parts, measure_size}
use Rattle.parts.specs.declared.kinds.Binary.{Binary}
use Rattle.parts.specs.declared.kinds.Comparator.TheVariants.{Equal}
use Rattle.parts.specs.declared.kinds.Part.{Part}
use Rattle.parts.specs.declared.kinds.Part.TheVariants as part
use Rattle.parts.specs.declared.kinds.Quantity.TheVariants.{Value}
use Rattle.parts.specs.declared.kinds.Statistic.{Statistic}
use Rattle.parts.specs.declared.kinds.Unary.{Unary}
use Rattle.parts.specs.declared.kinds.Window.{Window}
use Rattle.parts.proofs.TreesOfParts.{length_property_parts}
use Rattle.tokens.specs.Tokens.{Spot, Tok}
use Rattle.tokens.specs.declared.words.Punctuation.TheVariants.{Open, Close, Comma}
use Rattle.tokens.specs.declared.words.Sign.{Sign}
use Rattle.tokens.specs.Told.{tok_of}
use Rattle.tokens.specs.declared.words.Word.{Word}
use Rattle.tokens.specs.declared.words.Word.TheVariants as words
use Rattle.tokens.specs.declared.words.Sign.TheVariants.{Unsigned, Plus, Minus}
use Rattle.grammar.specs.Meanings.{measure_of, signed}
use Rattle.grammar.specs.Reading.{Outcome, Reader, got, fault, and_then, call, ending, first, is_mark, leaf, measure, measure_at, opening, punctuation, refuse, rest}
use Rattle.grammar.specs.Steps.{Rules}
use Rattle.grammar.specs.Trees as tree
use Rattle.grammar.specs.Trees.{MeasureTree}
use Rattle.criteria.specs.States.{View, Way, Follows, grown, moved}
use Rattle.criteria.specs.Ways.{argument, argument_parts, arguments_of, arguments_way, bring_way, call_way, columns_of, ending_way, kept_bound, measure_way, measuring, opening_way, operand_at, own_part, punctuation_way, rules_of, window_of, window_way}
use Rattle.criteria.specs.Refusals.{rule_number}
use Rattle.criteria.specs.declared.fault.Breach.{Breach}
use Rattle.criteria.specs.declared.fault.Rule.TheVariants.{Grammar}
use Rattle.criteria.specs.declared.reader.operands.Call.{Call}
use Rattle.criteria.specs.declared.reader.operands.Function.{Function}
use Rattle.criteria.specs.declared.reader.operands.Function.TheVariants as function
use Rattle.criteria.specs.declared.reader.operands.Operand.{Operand}
use Rattle.criteria.specs.declared.scope.Scope.{Scope}
use Rattle.criteria.proofs.Passing.{Grown, Passed, both, breaks, follows, goes, longer, passed, reads_as, refuses, scoped, stopped, unmoved, wrote}

-- the arguments of a measure have one part less than it
pub measure_length : (m : Measure) (start : ℕ) → length (measure_parts start m) ≡ measure_size m
measure_length m start =
    let own = part.Compare Equal Value (start + measure_size m - 1) ∷ [] in
    let zeros = part.Numeral (pos 0) ∷ [] in
    omega (arith, length-append (measure_parts start m ++ zeros) own, length-append (measure_parts start m) zeros, length_property_parts (formula.compare Equal Value m (formula.numeral (pos 0))) start)

own_last : (at : ℕ) (m : Measure) → measure_parts at m ≡ argument_parts at m ++ (own_part at m ∷ [])
own_last at (formula.numeral n) = refl
own_last at (formula.variable v) = refl
own_last at (formula.unary u m) = refl
own_last at (formula.binary b m n) = refl
own_last at (formula.over s w m) = refl

arguments_length : (at : ℕ) (m : Measure) → length (argument_parts at m) + 1 ≡ measure_size m
arguments_length at m = sym (length-append (argument_parts at m) (own_part at m ∷ [])) ∙ ap (λ (ps : List Part). length ps) (sym (own_last at m)) ∙ measure_length m at

-- an argument is a measure with one nesting less
argument_measure : (rules : Rules) (left : ℕ) (inside : Bool) (n : ℕ) (s : List Spot) → argument rules (suc left) inside n s ≡ measure rules left inside n s
unfolding argument
argument_measure rules left inside n s = refl

measure_step : (rules : Rules) (left : ℕ) (inside : Bool) (n : ℕ) (s : List Spot) → measure rules left inside n s ≡ measure_at rules left inside (argument rules left) (first s).tok n s
unfolding argument measure
measure_step rules zero inside n s = refl
measure_step rules (suc left) inside n s = refl

-- the measure that begins with this token
pub begins : (scope : Scope) (left : ℕ) (inside : Bool) (v : View) (t : Tok) → t ≡ (first v.spots).tok → measure_at (rules_of scope) left inside (argument (rules_of scope) left) t v.brought v.spots ≡ measure (rules_of scope) left inside v.brought v.spots
begins scope left inside v t e =
    ap (λ (t : Tok). measure_at (rules_of scope) left inside (argument (rules_of scope) left) t v.brought v.spots) e
    ∙ sym (measure_step (rules_of scope) left inside v.brought v.spots)

pub read_by : (scope : Scope) (left : ℕ) (inside : Bool) (read : Reader MeasureTree) (v : View) (r : Result Operand Breach) (w : View) (t : Tok) → t ≡ (first v.spots).tok → read v.brought v.spots ≡ measure_at (rules_of scope) left inside (argument (rules_of scope) left) t v.brought v.spots → Follows (measuring (columns_of scope) scope.magnitude read) v r w → Follows (measure_way scope left inside) v r w
read_by scope left inside read v r w t e same h =
    reads_as read (measure (rules_of scope) left inside) (λ at m. operand_at scope.magnitude at (measure_of (columns_of scope) m)) (λ at m. measure_parts at (measure_of (columns_of scope) m)) v r w (same ∙ begins scope left inside v t e) h

operand_of : (a b c d : ℕ) → a ≡ c → b ≡ d → ◌≡◌ {A = Operand} (record { at = a; bound = b }) (record { at = c; bound = d })
operand_of a b c d e f = ap (λ (k : ℕ). record { at = k; bound = b }) e ∙ ap (λ (k : ℕ). record { at = c; bound = k }) f

pub numeral_bound : (s : Sign) (n : ℕ) → n ≡ nat_abs (signed s n)
numeral_bound Unsigned n = refl
numeral_bound Plus n = refl
numeral_bound Minus zero = refl
numeral_bound Minus (suc n) = refl

-- a numeral or a variable
pub leaf_read : (scope : Scope) (kept : Bool) (number : ℕ) (m : MeasureTree) (p : Part) (v u x w : View) (at bound : ℕ) → kept ≡ true → Follows bring_way v (Ok tt) u → x ≡ moved u u.brought (rest u.spots) → w ≡ grown x (p ∷ []) x.brought x.spots → at ≡ length x.parts → bound ≡ bound_of scope.magnitude (measure_of (columns_of scope) m) → ((k : ℕ) → measure_parts k (measure_of (columns_of scope) m) ≡ p ∷ []) → Follows (measuring (columns_of scope) scope.magnitude (leaf (rules_of scope) kept number m)) v (Ok (record { at = at; bound = bound })) w
leaf_read scope kept number m p v u x w at bound holds brought on written place size own =
    let b = passed bring_way v tt u brought in
    let silent : Grown v [] x = both v u x [] [] b.grew (unmoved u x u.brought (rest u.spots) on) in
    let all = both v x w [] (p ∷ []) silent (wrote x w (p ∷ []) x.brought x.spots written) in
    let M = measure_of (columns_of scope) m in
    let here = length v.parts in
    let one : measure_size M ≡ 1 = sym (measure_length M here) ∙ ap (λ (ps : List Part). length ps) (own here) in
    follows (measuring (columns_of scope) scope.magnitude (leaf (rules_of scope) kept number m)) v (record { at = at; bound = bound }) w (record {
      found = m;
      reads =
          ap (λ (k : Bool). leaf (rules_of scope) k number m v.brought v.spots) holds
          ∙ goes (λ _ n s. got m n (rest s)) b.reads
          ∙ ap (λ (y : View). got m y.brought y.spots) (sym on)
          ∙ ap (λ (y : View). got m y.brought y.spots) (sym written);
      value = operand_of at bound (here + measure_size M - 1) (bound_of scope.magnitude M) (omega (arith, place, longer v x [] silent, one)) size;
      grew = subst (λ (ps : List Part). Grown v ps w) (sym (own here)) all;
    })

-- a closing bracket leaves the measure as it was read
ended : {A : Type 0} (closed kept : Bool) (m a : A) (n k place : ℕ) (s t u : List Spot) → cond closed (cond kept (got m n t) (fault 7 place s)) (refuse 2 s) ≡ got a k u → a ≡ m
ended true true m a n k place s t u e = cc
ended true false m a n k place s t u e = cc
ended false kept m a n k place s t u e = cc

-- the arguments of a function
pub one_read : (scope : Scope) (u : Unary) (left : ℕ) (inside : Bool) (v w : View) (o : Operand) → Follows (measure_way scope left inside) v (Ok o) w → Follows (arguments_way scope (function.Unary u) left inside) v (Ok (record { part = part.Unary u; bound = if_kept (unary_kept u o.bound) (unary_bound u o.bound) })) w
one_read scope u left inside v w o f =
    let p = passed (measure_way scope left inside) v o w f in
    follows (arguments_way scope (function.Unary u) left inside) v (record { part = part.Unary u; bound = if_kept (unary_kept u o.bound) (unary_bound u o.bound) }) w (record {
      found = tree.unary u p.found;
      reads = goes (λ m n s. got (tree.unary u m) n s) (argument_measure (rules_of scope) left inside v.brought v.spots ∙ p.reads);
      value = ap (λ (x : Operand). record { part = part.Unary u; bound = if_kept (unary_kept u x.bound) (unary_bound u x.bound) }) p.value;
      grew = p.grew;
    })

pub one_broken : (scope : Scope) (u : Unary) (left : ℕ) (inside : Bool) (v w x : View) (b : Breach) → Follows (measure_way scope left inside) v (Err b) w → Follows (arguments_way scope (function.Unary u) left inside) v (Err b) x
one_broken scope u left inside v w x b f =
    let make = λ (m : MeasureTree) (n : ℕ) (s : List Spot). got (tree.unary u m) n s in
    breaks (measure_way scope left inside) (arguments_way scope (function.Unary u) left inside) v v b w x make
    (ap (λ (o : Outcome MeasureTree). and_then o make) (argument_measure (rules_of scope) left inside v.brought v.spots)) f

-- two arguments: how the reading goes on behind the first, and behind the comma
module _ (v : View) (b : Binary) (left : ℕ) (inside : Bool) where
  abbrev behind_comma : MeasureTree → Unit {0} → Reader MeasureTree
  behind_comma l _ n s = and_then (argument (rules_of v.scope) (suc left) inside n s) (λ r n s. got (tree.binary b l r) n s)

  abbrev behind_first : MeasureTree → Reader MeasureTree
  behind_first l n s = and_then (punctuation Comma n s) (behind_comma l)

  abbrev two_way : Way MeasureTree Call
  two_way = arguments_way v.scope (function.Binary b) left inside

  abbrev argument_way : Way MeasureTree Operand
  argument_way = measure_way v.scope left inside

  an_argument : {A : Type 0} (y : View) (f : MeasureTree → Reader A) → and_then (argument (rules_of v.scope) (suc left) inside y.brought y.spots) f ≡ and_then (measure (rules_of v.scope) left inside y.brought y.spots) f
  an_argument y f = ap (λ (o : Outcome MeasureTree). and_then o f) (argument_measure (rules_of v.scope) left inside y.brought y.spots)

  pub two_broken_first : (w x : View) (e : Breach) → Follows argument_way v (Err e) w → Follows two_way v (Err e) x
  two_broken_first w x e f = breaks argument_way two_way v v e w x behind_first (an_argument v behind_first) f

  pub two_broken_comma : (u w x : View) (o : Operand) (e : Breach) → Follows argument_way v (Ok o) u → Follows (punctuation_way Comma) u (Err e) w → Follows two_way v (Err e) x
  two_broken_comma u w x o e f g =
      let p = passed argument_way v o u f in
      breaks (punctuation_way Comma) two_way v u e w x (behind_comma p.found) (an_argument v behind_first ∙ goes behind_first p.reads) g

  pub two_broken_second : (u t w x : View) (o : Operand) (e : Breach) → Follows argument_way v (Ok o) u → Follows (punctuation_way Comma) u (Ok tt) t → Follows (measure_way t.scope left inside) t (Err e) w → Follows two_way v (Err e) x
  two_broken_second u t w x o e f g h =
      let p = passed argument_way v o u f in
      let q = passed (punctuation_way Comma) u tt t g in
      let make = λ (r : MeasureTree) (n : ℕ) (s : List Spot). got (tree.binary b p.found r) n s in
      breaks argument_way two_way v t e w x make (an_argument v behind_first ∙ goes behind_first p.reads ∙ goes (behind_comma p.found) q.reads ∙ an_argument t make) (scoped (λ s. measure_way s left inside) t (Err e) w (q.grew.scope ∙ p.grew.scope) h)

  pub two_read : (u t w : View) (o a : Operand) → Follows argument_way v (Ok o) u → Follows (punctuation_way Comma) u (Ok tt) t → Follows (measure_way t.scope left inside) t (Ok a) w → Follows two_way v (Ok (record { part = part.Binary b o.at; bound = if_kept (binary_kept b o.bound a.bound) (binary_bound b o.bound a.bound) })) w
  two_read u t w o a f g h =
      let p = passed argument_way v o u f in
      let q = passed (punctuation_way Comma) u tt t g in
      let r = passed argument_way t a w (scoped (λ s. measure_way s left inside) t (Ok a) w (q.grew.scope ∙ p.grew.scope) h) in
      let make = λ (r : MeasureTree) (n : ℕ) (s : List Spot). got (tree.binary b p.found r) n s in
      let M = measure_of (columns_of v.scope) p.found in
      let N = measure_of (columns_of v.scope) r.found in
      let here = length v.parts in
      let left_parts = both v u t (measure_parts here M) [] p.grew q.grew in
      let after : length t.parts ≡ here + measure_size M = omega (arith, longer v u (measure_parts here M) p.grew, longer u t [] q.grew, measure_length M here) in
      let answer : Operand → Operand → Call = λ x y. record { part = part.Binary b x.at; bound = if_kept (binary_kept b x.bound y.bound) (binary_bound b x.bound y.bound) } in
      follows two_way v (answer o a) w (record {
        found = tree.binary b p.found r.found;
        reads = an_argument v behind_first ∙ goes behind_first p.reads ∙ goes (behind_comma p.found) q.reads ∙ an_argument t make ∙ goes make r.reads;
        value = ap (λ (x : Operand). answer x a) p.value ∙ ap (λ (y : Operand). answer (operand_at v.scope.magnitude here M) y) r.value;
        grew =
            subst (λ (k : ℕ). Grown v (measure_parts here M ++ measure_parts k N) w) after
            (both v u w (measure_parts here M) (measure_parts (length t.parts) N) p.grew (both u t w [] (measure_parts (length t.parts) N) q.grew r.grew));
      })

-- a window and an argument
module _ (v : View) (s : Statistic) (left : ℕ) (inside : Bool) where
  abbrev behind_window : (ℕ × ℕ) → Reader MeasureTree
  behind_window w n z = and_then (argument (rules_of v.scope) (suc left) true n z) (λ m n z. got (tree.over s w.0 w.1 m) n z)

  abbrev over_way : Way MeasureTree Call
  over_way = arguments_way v.scope (function.Statistic s) left inside

  abbrev inside_way : Way MeasureTree Operand
  inside_way = measure_way v.scope left true

  an_inside : {A : Type 0} (y : View) (f : MeasureTree → Reader A) → and_then (argument (rules_of v.scope) (suc left) true y.brought y.spots) f ≡ and_then (measure (rules_of v.scope) left true y.brought y.spots) f
  an_inside y f = ap (λ (o : Outcome MeasureTree). and_then o f) (argument_measure (rules_of v.scope) left true y.brought y.spots)

  pub over_broken : (u w x : View) (a : Window) (e : Breach) → Follows window_way v (Ok a) u → Follows (measure_way u.scope left true) u (Err e) w → Follows over_way v (Err e) x
  over_broken u w x a e f g =
      let p = passed window_way v a u f in
      let make = λ (m : MeasureTree) (n : ℕ) (z : List Spot). got (tree.over s p.found.0 p.found.1 m) n z in
      breaks inside_way over_way v u e w x make (goes behind_window p.reads ∙ an_inside u make) (scoped (λ s. measure_way s left true) u (Err e) w p.grew.scope g)

  pub over_read : (u w : View) (a : Window) (o : Operand) → Follows window_way v (Ok a) u → Follows (measure_way u.scope left true) u (Ok o) w → Follows over_way v (Ok (record { part = part.Over s a; bound = if_kept (statistic_kept s o.bound) (statistic_bound s o.bound) })) w
  over_read u w a o f g =
      let p = passed window_way v a u f in
      let q = passed inside_way u o w (scoped (λ s. measure_way s left true) u (Ok o) w p.grew.scope g) in
      let make = λ (m : MeasureTree) (n : ℕ) (z : List Spot). got (tree.over s p.found.0 p.found.1 m) n z in
      let M = measure_of (columns_of v.scope) q.found in
      let here : length u.parts ≡ length v.parts = omega (arith, longer v u [] p.grew) in
      let answer : Window → Operand → Call = λ x y. record { part = part.Over s x; bound = if_kept (statistic_kept s y.bound) (statistic_bound s y.bound) } in
      follows over_way v (answer a o) w (record {
        found = tree.over s p.found.0 p.found.1 q.found;
        reads = goes behind_window p.reads ∙ an_inside u make ∙ goes make q.reads;
        value = ap (λ (x : Window). answer x o) p.value ∙ ap (λ (y : Operand). answer (window_of p.found) y) q.value;
        grew = subst (λ (k : ℕ). Grown v (measure_parts k M) w) here (both v u w [] (measure_parts (length u.parts) M) p.grew q.grew);
      })

-- no opening bracket is read where no nesting is left
no_opening : {A : Type 0} (is_open : Bool) (a : A) (m : ℕ) (s t : List Spot) → cond is_open (refuse 6 s) (refuse 2 s) ≡ got a m t → ⊥
no_opening true a m s t e = cc
no_opening false a m s t e = cc

-- where an opening bracket is read, a nesting is left
nesting_left : (left n m : ℕ) (s t : List Spot) → opening left n s ≡ got tt m t → left ≡ suc (left - 1)
nesting_left zero n m s t e = absurd (no_opening (is_mark Open (first s).tok) tt m s t e)
nesting_left (suc left) n m s t e = omega arith

-- a function's name, its bracket, its arguments, its closing bracket and its part
module _ (f : Function) (left : ℕ) (inside : Bool) (v : View) where
  abbrev whole_way : Way MeasureTree Operand
  whole_way = call_way v.scope f left inside

  abbrev given_way : Way MeasureTree Call
  given_way = arguments_way v.scope f (left - 1) inside

  abbrev closing : MeasureTree → Reader MeasureTree
  closing m n t = ending (rules_of v.scope) (first v.spots).at m n t

  abbrev behind_opening : Unit {0} → Reader MeasureTree
  behind_opening _ n t = and_then (arguments_of (rules_of v.scope) f left inside n t) closing

  abbrev behind_name : Unit {0} → Reader MeasureTree
  behind_name _ n t = and_then (opening left n (rest t)) behind_opening

  -- the reading stands before the arguments
  pub record Opened (u : View) : Type 0 where
    pub reads : call (rules_of v.scope) left (arguments_of (rules_of v.scope) f left inside) v.brought v.spots ≡ and_then (arguments_of (rules_of v.scope) f (suc (left - 1)) inside u.brought u.spots) closing
    pub grew : Grown v [] u

  pub opened : (a b u : View) → Follows bring_way v (Ok tt) a → b ≡ moved a a.brought (rest a.spots) → Follows (opening_way left) b (Ok tt) u → Opened u
  opened a b u brought on open' =
      let p = passed bring_way v tt a brought in
      let q = passed (opening_way left) b tt u open' in
      record {
        reads =
            goes behind_name p.reads ∙ ap (λ (y : View). and_then (opening left y.brought y.spots) behind_opening) (sym on) ∙ goes behind_opening q.reads
            ∙ ap (λ (k : ℕ). and_then (arguments_of (rules_of v.scope) f k inside u.brought u.spots) closing) (nesting_left left b.brought u.brought b.spots u.spots q.reads);
        grew = both v a u [] [] p.grew (both a b u [] [] (unmoved a b a.brought (rest a.spots) on) q.grew);
      }

  pub call_broken : (u w x : View) (e : Breach) → Opened u → Follows (arguments_way u.scope f (left - 1) inside) u (Err e) w → Follows whole_way v (Err e) x
  call_broken u w x e o g = breaks given_way whole_way v u e w x closing o.reads (scoped (λ s. arguments_way s f (left - 1) inside) u (Err e) w o.grew.scope g)

  -- the closing bracket is read in the v.scope that the name was read in
  closed : (u t : View) (made : Call) (place : ℕ) (p : Passed given_way u made t) → Opened u → (r : Result ℕ Breach) (w : View) → ((m : MeasureTree) → made.bound ≡ kept_bound t.scope m → Follows (ending_way t.scope place m) t r w) → Follows (ending_way v.scope place p.found) t r w
  closed u t made place p o r w h =
      let e = p.grew.scope ∙ o.grew.scope in
      scoped (λ s. ending_way s place p.found) t r w e (h p.found (ap (λ (k : Call). k.bound) p.value ∙ ap (λ (s : Scope). kept_bound s p.found) (sym e)))

  pub ending_broken : (u t w x : View) (made : Call) (place : ℕ) (e : Breach) → Opened u → place ≡ (first v.spots).at → Follows (arguments_way u.scope f (left - 1) inside) u (Ok made) t → ((m : MeasureTree) → made.bound ≡ kept_bound t.scope m → Follows (ending_way t.scope place m) t (Err e) w) → Follows whole_way v (Err e) x
  ending_broken u t w x made place e o at g h =
      let p = passed given_way u made t (scoped (λ s. arguments_way s f (left - 1) inside) u (Ok made) t o.grew.scope g) in
      let q = stopped (ending_way v.scope place p.found) t e w (closed u t made place p o (Err e) w h) in
      refuses whole_way v e x (record {
        left = q.left;
        reads = o.reads ∙ goes closing p.reads ∙ ap (λ (k : ℕ). ending (rules_of v.scope) k p.found t.brought t.spots) (sym at) ∙ q.reads;
      })

  pub call_read : (u t y w : View) (made : Call) (place bound at : ℕ) → Opened u → place ≡ (first v.spots).at → Follows (arguments_way u.scope f (left - 1) inside) u (Ok made) t → ((m : MeasureTree) → made.bound ≡ kept_bound t.scope m → Follows (ending_way t.scope place m) t (Ok bound) y) → w ≡ grown y (made.part ∷ []) y.brought y.spots → at ≡ length y.parts → Follows whole_way v (Ok (record { at = at; bound = bound })) w
  call_read u t y w made place bound at o same g h written index =
      let p = passed given_way u made t (scoped (λ s. arguments_way s f (left - 1) inside) u (Ok made) t o.grew.scope g) in
      let m = p.found in
      let M = measure_of (columns_of v.scope) m in
      let q = passed (ending_way v.scope place m) t bound y (closed u t made place p o (Ok bound) y h) in
      let it : q.found ≡ m = ended (is_mark Close (first t.spots).tok) ((rules_of v.scope).bound m) m q.found t.brought y.brought place t.spots (rest t.spots) y.spots q.reads in
      let here = length v.parts in
      let there = length u.parts in
      let same_place : there ≡ here = omega (arith, longer v u [] o.grew) in
      let own : made.part ≡ own_part there M = ap (λ (k : Call). k.part) p.value in
      let all = both v u w [] (argument_parts there M ++ (made.part ∷ [])) o.grew (both u t w (argument_parts there M) (made.part ∷ []) p.grew (both t y w [] (made.part ∷ []) q.grew (wrote y w (made.part ∷ []) y.brought y.spots written))) in
      let parts_eq : argument_parts there M ++ (made.part ∷ []) ≡ measure_parts here M = ap (λ (k : Part). argument_parts there M ++ (k ∷ [])) own ∙ sym (own_last there M) ∙ ap (λ (k : ℕ). measure_parts k M) same_place in
      follows whole_way v (record { at = at; bound = bound }) w (record {
        found = m;
        reads =
            o.reads
            ∙ goes closing p.reads
            ∙ ap (λ (k : ℕ). ending (rules_of v.scope) k m t.brought t.spots) (sym same)
            ∙ q.reads
            ∙ ap (λ (a : MeasureTree). got a y.brought y.spots) it
            ∙ ap (λ (x : View). got m x.brought x.spots) (sym written);
        value =
            operand_of at bound (here + measure_size M - 1) (bound_of v.scope.magnitude M)
            (omega (arith, index, same_place, arguments_length there M, longer u t (argument_parts there M) p.grew, longer t y [] q.grew))
            (q.value ∙ ap (λ (a : MeasureTree). bound_of v.scope.magnitude (measure_of (columns_of v.scope) a)) it);
        grew = subst (λ (ps : List Part). Grown v ps w) parts_eq all;
      })

-- a token that begins no measure
pub refused_by : (scope : Scope) (left : ℕ) (inside : Bool) (v : View) (t : Tok) (b : Breach) (w : View) → t ≡ (first v.spots).tok → measure_at (rules_of scope) left inside (argument (rules_of scope) left) t v.brought v.spots ≡ refuse 2 v.spots → b ≡ record { rule = Grammar; place = (first v.spots).at } → Follows (measure_way scope left inside) v (Err b) w
refused_by scope left inside v t b w e same is =
    refuses (measure_way scope left inside) v b w (record {
      left = v.spots;
      reads = sym (begins scope left inside v t e) ∙ same ∙ ap (λ (x : Breach). fault (rule_number x.rule) x.place v.spots) (sym is);
    })

-- only these words begin a measure
pub no_measure : (scope : Scope) (left : ℕ) (inside : Bool) (v : View) (word : Word) → ((x : Sign) (n : ℕ) → word ≡ words.Numeral x n → ⊥) → ((name : _) → word ≡ words.Variable name → ⊥) → ((u : Unary) → word ≡ words.Unary u → ⊥) → ((b : Binary) → word ≡ words.Binary b → ⊥) → ((s : Statistic) → word ≡ words.Statistic s → ⊥) → measure_at (rules_of scope) left inside (argument (rules_of scope) left) (tok_of word) v.brought v.spots ≡ refuse 2 v.spots
no_measure scope left inside v (words.Punctuation p) a b d e f = refl
no_measure scope left inside v words.Change a b d e f = refl
no_measure scope left inside v (words.Comparator c) a b d e f = refl
no_measure scope left inside v (words.Unary u) a b d e f = absurd (d u refl)
no_measure scope left inside v (words.Binary x) a b d e f = absurd (e x refl)
no_measure scope left inside v (words.Statistic s) a b d e f = absurd (f s refl)
no_measure scope left inside v (words.Prefix x) a b d e f = refl
no_measure scope left inside v (words.Connective x) a b d e f = refl
no_measure scope left inside v (words.Numeral s n) a b d e f = absurd (a s n refl)
no_measure scope left inside v (words.Variable name) a b d e f = absurd (b name refl)
no_measure scope left inside v words.Stray a b d e f = refl
no_measure scope left inside v words.Stop a b d e f = refl
