-- The reader of measures is right.
use Rattle.std.proofs.Common.{◌≡◌, ℕ, zero, suc, ◌+◌, Bool, true, false, cond, ltb, leb, List, [], ◌∷◌, ◌++◌, length, Some, sym, refl, subst, append_assoc, append-nil, arith}
use Rattle.parts.specs.declared.kinds.Binary.{Binary}
use Rattle.parts.specs.declared.kinds.Statistic.{Statistic}
use Rattle.parts.specs.declared.kinds.Unary.{Unary}
use Rattle.tokens.specs.Tokens.{Tok, Spot, mark, change, comparator, prefix, connective, stray, stop}
use Rattle.tokens.specs.Tokens as token
use Rattle.tokens.specs.declared.words.Punctuation.TheVariants.{Open, Close, Comma}
use Rattle.tokens.specs.declared.words.Sign.TheVariants.{Unsigned}
use Rattle.grammar.specs.Faults.{broken_by}
use Rattle.grammar.specs.Layers.{MeasureText, a_numeral, a_variable, a_unary, a_binary, a_statistic}
use Rattle.grammar.specs.Reading as reading
use Rattle.grammar.specs.Reading.{got, fault, Reader, and_then, refuse, rest, is_mark, bring, call, unary_arguments, binary_arguments, window_arguments, measure_at, measure}
use Rattle.grammar.specs.Steps.{Rules, Step, unless, plain, bringing, nesting, ending, leaf, window_steps, call_steps, measure_steps}
use Rattle.grammar.specs.Trees.{MeasureTree, numeral, variable, unary, binary, over}
use Rattle.grammar.proofs.Keeping.{Room, judged, flat, bringing_judged}
use Rattle.grammar.proofs.Outcomes.{Language, cannot, broken, Right, reads, refuses, Fine, then_right, behind_right}
use Rattle.grammar.proofs.Spelling.{Spelled, none, more, join, respelled}
use Rattle.grammar.proofs.TokenKinds.{mark_is}
use Rattle.grammar.proofs.TokenReaders.{spot, take_right, punctuation_fine, opening_fine, bring_right, left_over, none_left, deeper}
use Rattle.grammar.proofs.WindowReaders.{window_fine}

abbrev pub AMeasure : Bool → MeasureTree → Type 0
AMeasure inside m = (ts : List Tok) × MeasureText inside ts m

-- inside so many nestings, and inside a window measure or not
abbrev pub measures : Rules → ℕ → Bool → Language MeasureTree
measures rules d inside = record { steps = measure_steps rules d; has = AMeasure inside }

-- a numeral can stand wherever a measure can
abbrev pub some_measure : MeasureTree
some_measure = numeral Unsigned 0

pub some_measure_is : {inside : Bool} → AMeasure inside some_measure
some_measure_is = (token.numeral Unsigned 0 ∷ [], a_numeral)

-- the measures with arguments that have this name
data Called : Bool → Tok → MeasureTree → Type 0 where
  called_unary : {inside : Bool} {u : Unary} {m : MeasureTree} → AMeasure inside m → Called inside (token.unary u) (unary u m)
  called_binary : {inside : Bool} {b : Binary} {m n : MeasureTree} → AMeasure inside m → AMeasure inside n → Called inside (token.binary b) (binary b m n)
  called_statistic : {s : Statistic} {a b : ℕ} {m : MeasureTree} → AMeasure true m → Called false (token.statistic s) (over s a b m)

argument_steps : Rules → ℕ → MeasureTree → List Step
argument_steps rules d (numeral s n) = []
argument_steps rules d (variable name) = []
argument_steps rules d (unary u m) = measure_steps rules d m
argument_steps rules d (binary b m n) = measure_steps rules d m ++ (plain (mark Comma) ∷ measure_steps rules d n)
argument_steps rules d (over s a b m) = window_steps rules a b ++ measure_steps rules d m

abbrev arguments : Rules → ℕ → Bool → Tok → Language MeasureTree
arguments rules d inside name = record { steps = argument_steps rules d; has = Called inside name }

called_is : {inside : Bool} {name : Tok} {m : MeasureTree} → Called inside name m → AMeasure inside m
called_is (called_unary h) = (_, a_unary h.1)
called_is (called_binary h k) = (_, a_binary h.1 k.1)
called_is (called_statistic h) = (_, a_statistic h.1)

called_steps : {inside : Bool} {name : Tok} {m : MeasureTree} (rules : Rules) (d : ℕ) → Called inside name m → measure_steps rules d m ≡ call_steps rules (suc d) name m (argument_steps rules (suc d) m)
unfolding argument_steps
called_steps rules d h = grind arith

module _ {rules : Rules} where
  ending_right : {inside : Bool} {n n' d place : ℕ} {name : Tok} {t s' : List Spot} (m : MeasureTree) → Called inside name m → Room rules n' → Spelled rules n (spot name place ∷ t) (bringing name ∷ nesting (suc d) (mark Open) ∷ argument_steps rules (suc d) m) n' s' → Right rules (measures rules d inside) n (spot name place ∷ t) (reading.ending rules place m n' s')
  ending_right {d} {s' = []} m c r w = refuses (called_is c) (called_steps rules d c) w cannot
  ending_right {inside} {n} {n'} {d} {place} {name} {t} {s' = x ∷ s} m c r w = by (is_mark Close x.tok) refl
    where
      back : ℕ
      back = suc (suc (length (argument_steps rules (suc d) m)))

      is_broken : broken_by rules n' (ending rules m back) ≡ unless (rules.bound m) 7
      is_broken = judged rules n' (ending rules m back) r (flat rules)

      tested : (b : Bool) → broken_by rules n' (ending rules m back) ≡ unless b 7 → Spelled rules n (spot name place ∷ t) (bringing name ∷ nesting (suc d) (mark Open) ∷ argument_steps rules (suc d) m) n' (spot (mark Close) x.at ∷ s) → Right rules (measures rules d inside) n (spot name place ∷ t) (cond b (got m n' s) (fault 7 place (spot (mark Close) x.at ∷ s)))
      tested true e w = reads (called_is c) (respelled (sym (called_steps rules d c)) (join w (more e none)))
      tested false e w = refuses (called_is c) (called_steps rules d c) w (broken (λ z. omega arith) e (record { before = []; after = bringing name ∷ nesting (suc d) (mark Open) ∷ argument_steps rules (suc d) m; m = n; t = spot name place ∷ t; until = none; since = w; all = refl; long = refl; there = refl }))

      by : (b : Bool) → is_mark Close x.tok ≡ b → Right rules (measures rules d inside) n (spot name place ∷ t) (cond b (cond (rules.bound m) (got m n' s) (fault 7 place (x ∷ s))) (fault 2 x.at (x ∷ s)))
      by false e = refuses (called_is c) (called_steps rules d c) w cannot
      by true e = subst (λ (k : Tok). Spelled rules n (spot name place ∷ t) (bringing name ∷ nesting (suc d) (mark Open) ∷ argument_steps rules (suc d) m) n' (spot k x.at ∷ s) → Right rules (measures rules d inside) n (spot name place ∷ t) (cond (rules.bound m) (got m n' s) (fault 7 place (spot k x.at ∷ s)))) (sym (mark_is Close x.tok e)) (tested (rules.bound m) is_broken) w

  call_right : {inside : Bool} {p : Reader MeasureTree} {some : MeasureTree} (name : Tok) (d left n place : ℕ) (t : List Spot) → d + left ≡ rules.nesting → Room rules n → (ltb 0 left ≡ true → Fine rules p (arguments rules (suc d) inside name)) → Called inside name some → Right rules (measures rules d inside) n (spot name place ∷ t) (call rules left p n (spot name place ∷ t))
  call_right {some} name d left n place t deep r fine c =
      behind_right (bring rules n (spot name place ∷ t)) none r (bring_right name n place t) (λ _ _. (some, called_is c, _, called_steps rules d c)) (λ _ n s _ r w.
      then_right w r (opening_fine d left deep n _ r) (λ _ _. (some, called_is c, _, called_steps rules d c)) (λ _ n s _ r w.
      then_right w r (fine (left_over d left (bringing name ∷ []) (nesting (suc d) (mark Open)) deep refl w) n s r) (λ m h. (m, called_is h, _, called_steps rules d h)) (λ m n s h r w.
      ending_right m h r w)))

  unary_fine : {inside : Bool} {p : Reader MeasureTree} (u : Unary) (d : ℕ) → Fine rules p (measures rules d inside) → Fine rules (unary_arguments p (unary u)) (arguments rules d inside (token.unary u))
  unfolding argument_steps
  unary_fine u d fine n s r =
      then_right none r (fine n s r) (λ m h. (unary u m, called_unary h, [], sym (append-nil (measure_steps rules d m)))) (λ m n s h r w.
      reads (called_unary h) w)

  binary_fine : {inside : Bool} {p : Reader MeasureTree} (b : Binary) (d : ℕ) → Fine rules p (measures rules d inside) → Fine rules (binary_arguments p (binary b)) (arguments rules d inside (token.binary b))
  unfolding argument_steps
  binary_fine b d fine n s r =
      then_right none r (fine n s r) (λ l h. (binary b l some_measure, called_binary h some_measure_is, _, refl)) (λ l n s h r w.
      then_right w r (punctuation_fine Comma n s r) (λ _ _. (binary b l some_measure, called_binary h some_measure_is, _, sym (append_assoc (measure_steps rules d l) (plain (mark Comma) ∷ []) (measure_steps rules d some_measure)))) (λ _ n s _ r w.
      then_right w r (fine n s r) (λ m k. (binary b l m, called_binary h k, [], simp (append_assoc, append-nil))) (λ m n s k r w.
      reads (called_binary h k) (respelled (append_assoc (measure_steps rules d l) (plain (mark Comma) ∷ []) (measure_steps rules d m)) w))))

  statistic_fine : {p : Reader MeasureTree} (x : Statistic) (d : ℕ) → Fine rules p (measures rules d true) → Fine rules (window_arguments rules p (over x)) (arguments rules d false (token.statistic x))
  unfolding argument_steps
  statistic_fine x d fine n s r =
      then_right none r (window_fine n s r) (λ v _. (over x v.0 v.1 some_measure, called_statistic some_measure_is, _, refl)) (λ v n s _ r w.
      then_right w r (fine n s r) (λ m h. (over x v.0 v.1 m, called_statistic h, [], sym (append-nil (window_steps rules v.0 v.1 ++ measure_steps rules d m)))) (λ m n s h r w.
      reads (called_statistic h) w))

  leaf_right : {inside : Bool} (d n place : ℕ) (s : List Spot) (t : Tok) (m : MeasureTree) (number : ℕ) (kept : Bool) → (number ≡ 2 → ⊥) → measure_steps rules d m ≡ leaf t (unless kept number) ∷ [] → AMeasure inside m → Right rules (measures rules d inside) n (spot t place ∷ s) (reading.leaf rules kept number m n (spot t place ∷ s))
  leaf_right {inside} d n place s t m number true ne e h = by (leb (suc n) rules.parts) (bringing_judged rules n t)
    where
      by : (b : Bool) → broken_by rules n (bringing t) ≡ unless b 6 → Right rules (measures rules d inside) n (spot t place ∷ s) (and_then (cond b (got (tt {0}) (suc n) (spot t place ∷ s)) (fault 6 place (spot t place ∷ s))) (λ _ n s. got m n (rest s)))
      by true k = take_right m (bringing t) true 6 (λ z. omega arith) k refl h e
      by false k = take_right m (bringing t) false 6 (λ z. omega arith) k refl h e
  leaf_right d n place s t m number false ne e h = take_right m (leaf t (Some number)) false number ne refl refl h e

  measure_at_right : (d left : ℕ) (inside : Bool) {inner : Bool → Reader MeasureTree} → d + left ≡ rules.nesting → (ltb 0 left ≡ true → (b : Bool) → Fine rules (inner b) (measures rules (suc d) b)) → (t : Tok) (n place : ℕ) (s : List Spot) → Room rules n → Right rules (measures rules d inside) n (spot t place ∷ s) (measure_at rules left inside inner t n (spot t place ∷ s))
  measure_at_right d left inside deep fine (token.numeral sign k) n place s r = leaf_right d n place s (token.numeral sign k) (numeral sign k) 3 (rules.numeral k) (λ z. omega arith) refl (_, a_numeral)
  measure_at_right d left inside deep fine (token.variable name) n place s r = leaf_right d n place s (token.variable name) (variable name) 5 (rules.column name) (λ z. omega arith) refl (_, a_variable)
  measure_at_right d left inside deep fine (token.unary u) n place s r = call_right (token.unary u) d left n place s deep r (λ l. unary_fine u (suc d) (fine l inside)) (called_unary some_measure_is)
  measure_at_right d left inside deep fine (token.binary b) n place s r = call_right (token.binary b) d left n place s deep r (λ l. binary_fine b (suc d) (fine l inside)) (called_binary some_measure_is some_measure_is)
  measure_at_right d left true deep fine (token.statistic x) n place s r = refuses some_measure_is refl none cannot
  measure_at_right d left false deep fine (token.statistic x) n place s r = call_right (token.statistic x) d left n place s deep r (λ l. statistic_fine x (suc d) (fine l true)) (called_statistic {a = 0} {b = 0} some_measure_is)
  measure_at_right d left inside deep fine (mark q) n place s r = refuses some_measure_is refl none cannot
  measure_at_right d left inside deep fine change n place s r = refuses some_measure_is refl none cannot
  measure_at_right d left inside deep fine (comparator c) n place s r = refuses some_measure_is refl none cannot
  measure_at_right d left inside deep fine (prefix x) n place s r = refuses some_measure_is refl none cannot
  measure_at_right d left inside deep fine (connective x) n place s r = refuses some_measure_is refl none cannot
  measure_at_right d left inside deep fine stray n place s r = refuses some_measure_is refl none cannot
  measure_at_right d left inside deep fine stop n place s r = refuses some_measure_is refl none cannot

  pub measure_fine : (d left : ℕ) → d + left ≡ rules.nesting → (inside : Bool) → Fine rules (measure rules left inside) (measures rules d inside)
  unfolding measure
  measure_fine d zero deep inside n [] r = refuses some_measure_is refl none cannot
  measure_fine d zero deep inside n (x ∷ s) r = measure_at_right d zero inside {inner = λ _ n s. refuse 2 s} deep (λ l. absurd (none_left l)) x.tok n x.at s r
  measure_fine d (suc left) deep inside n [] r = refuses some_measure_is refl none cannot
  measure_fine d (suc left) deep inside n (x ∷ s) r = measure_at_right d (suc left) inside deep (λ _ b. measure_fine (suc d) left (deeper d left deep) b) x.tok n x.at s r
