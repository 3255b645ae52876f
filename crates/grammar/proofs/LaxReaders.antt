-- The readers with lax rules, which only limit parts and nesting, and no less than the rules at hand, follow those with the rules at hand.
use Rattle.std.proofs.Common.{◌≡◌, ℕ, zero, suc, pred, ◌≤◌, Bool, true, false, cond, ◌&&◌, ltb, leb, List, [], ◌∷◌, Some, None, Option, refl, ap, ap₂, arith, ltb-true, lt-ltb, le-leb, leb-true}
use Rattle.std.proofs.lemmas.Bool.{and_parts}
use Rattle.parts.specs.declared.kinds.Comparator.{Comparator}
use Rattle.parts.specs.declared.kinds.Quantity.{Quantity}
use Rattle.parts.specs.declared.kinds.Quantity.TheVariants.{Value, Change}
use Rattle.tokens.specs.Tokens.{Tok, Spot, mark, change, comparator, unary, binary, statistic, prefix, connective, numeral, variable, stray, stop}
use Rattle.tokens.specs.declared.words.ConnectiveSign.{ConnectiveSign}
use Rattle.tokens.specs.declared.words.ConnectiveSign.TheVariants as connectives
use Rattle.tokens.specs.declared.words.PrefixSign.{PrefixSign}
use Rattle.tokens.specs.declared.words.PrefixSign.TheVariants as prefixes
use Rattle.tokens.specs.declared.words.Punctuation.{Punctuation}
use Rattle.tokens.specs.declared.words.Punctuation.TheVariants.{Open, Close, OpenWindow, CloseWindow, Comma}
use Rattle.tokens.specs.declared.words.Sign.{Sign}
use Rattle.grammar.specs.Reading.{got, Reader, and_then, first, rest, refuse, taking, is_mark, bring, punctuation, opening, signed_numeral, window_numeral, index_numeral, first_moment, last_moment, index_by, window, ending, call, unary_arguments, binary_arguments, window_arguments, leaf, measure_at, measure, comparator_of, compared_by, compared, comparison, change_comparison, lead, prefix_sign, prefixed_by, bracketed_by, operand_at, link}
use Rattle.grammar.specs.Steps.{Rules}
use Rattle.grammar.specs.Trees as tree
use Rattle.grammar.specs.Trees.{MeasureTree, PropertyTree}
use Rattle.grammar.proofs.Following.{Follows, breaks, FollowsReader, follows_as, read_follows, then_follows, by_token_follows, behind_follows, refuse_follows, got_follows, taken_follows, cond_follows, rule_follows, passing_follows}
use Rattle.grammar.proofs.TokenReaders.{none_left}

-- every test is passed
abbrev pub lax : ℕ → ℕ → Rules
lax parts nesting = record { numeral = λ _. true; index = λ _. true; order = λ _ _. true; column = λ _. true; bound = λ _. true; parts = parts; nesting = nesting }

punctuation_follows : (p : Punctuation) → FollowsReader (punctuation p) (punctuation p)
punctuation_follows p n [] = by_token_follows (λ k t. taking (is_mark p k) 2 tt n t) refuse_follows
punctuation_follows p n (x ∷ s) = by_token_follows (λ k t. taking (is_mark p k) 2 tt n t) (cond_follows (is_mark p x.tok) taken_follows refuse_follows)

more_left : (left left' : ℕ) → left ≤ left' → ltb 0 left ≡ true → ltb 0 left' ≡ true
more_left left left' h e = grind (arith, lt-ltb, ltb-true)

opening_follows : (left left' : ℕ) → left ≤ left' → FollowsReader (opening left') (opening left)
opening_follows left left' h n [] = by_token_follows (λ k t. cond (is_mark Open k) (taking (ltb 0 left') 6 tt n t) (refuse 2 t)) refuse_follows
opening_follows left left' h n (x ∷ s) = by_token_follows (λ k t. cond (is_mark Open k) (taking (ltb 0 left') 6 tt n t) (refuse 2 t)) (cond_follows (is_mark Open x.tok) (rule_follows (ltb 0 left) 6 _ _ (λ z. omega arith) (λ e. passing_follows _ (more_left left left' h e) taken_follows)) refuse_follows)

-- an opening bracket is read only where some nesting is left
opening_got : (left n m : ℕ) (s t : List Spot) (u : Unit {0}) → opening left n s ≡ got u m t → ltb 0 left ≡ true
opening_got left n m s t u e = grind arith

prefix_sign_got : (rules : Rules) (left n m : ℕ) (s t : List Spot) (u : Unit {0}) → prefix_sign rules left n s ≡ got u m t → ltb 0 left ≡ true
prefix_sign_got rules left n m s t u e = grind arith

module _ (rules : Rules) (parts nesting : ℕ) (roomy : rules.parts ≤ parts) where
  pub room : (n : ℕ) → leb n rules.parts ≡ true → leb n parts ≡ true
  room n e = grind (arith, le-leb, leb-true)

  first_moment_follows : FollowsReader (λ n s. first_moment (lax parts nesting) (window_numeral (signed_numeral (first s).tok)) n s) (λ n s. first_moment rules (window_numeral (signed_numeral (first s).tok)) n s)
  first_moment_follows n [] = by_token_follows (λ k t. first_moment (lax parts nesting) (window_numeral (signed_numeral k)) n t) refuse_follows
  first_moment_follows n (x ∷ s) = by_token_follows (λ k t. first_moment (lax parts nesting) (window_numeral (signed_numeral k)) n t) (by (window_numeral (signed_numeral x.tok)))
    where
      by : (o : Option ℕ) → Follows (first_moment (lax parts nesting) o n) (x ∷ s) (first_moment rules o n (x ∷ s))
      by None = refuse_follows
      by (Some a) = rule_follows (rules.numeral a) 3 _ _ (λ z. omega arith) (λ _. taken_follows)

  last_moment_follows : (a : ℕ) → FollowsReader (λ n s. last_moment (lax parts nesting) a (window_numeral (signed_numeral (first s).tok)) n s) (λ n s. last_moment rules a (window_numeral (signed_numeral (first s).tok)) n s)
  last_moment_follows a n [] = by_token_follows (λ k t. last_moment (lax parts nesting) a (window_numeral (signed_numeral k)) n t) refuse_follows
  last_moment_follows a n (x ∷ s) = by_token_follows (λ k t. last_moment (lax parts nesting) a (window_numeral (signed_numeral k)) n t) (by (window_numeral (signed_numeral x.tok)))
    where
      by : (o : Option ℕ) → Follows (last_moment (lax parts nesting) a o n) (x ∷ s) (last_moment rules a o n (x ∷ s))
      by None = refuse_follows
      by (Some b) = rule_follows (rules.numeral b) 3 _ _ (λ z. omega arith) (λ _. rule_follows (rules.order a b) 4 _ _ (λ z. omega arith) (λ _. taken_follows))

  index_follows : FollowsReader (λ n s. index_by (lax parts nesting) (index_numeral (signed_numeral (first s).tok)) n s) (λ n s. index_by rules (index_numeral (signed_numeral (first s).tok)) n s)
  index_follows n [] = by_token_follows (λ k t. index_by (lax parts nesting) (index_numeral (signed_numeral k)) n t) refuse_follows
  index_follows n (x ∷ s) = by_token_follows (λ k t. index_by (lax parts nesting) (index_numeral (signed_numeral k)) n t) (by (index_numeral (signed_numeral x.tok)))
    where
      by : (o : Option (Sign × ℕ)) → Follows (index_by (lax parts nesting) o n) (x ∷ s) (index_by rules o n (x ∷ s))
      by None = refuse_follows
      by (Some k) = rule_follows (rules.index k.1) 3 _ _ (λ z. omega arith) (λ _. taken_follows)

  window_follows : FollowsReader (window (lax parts nesting)) (window rules)
  window_follows n s =
      then_follows (punctuation_follows OpenWindow n s) (λ _ n s.
      then_follows (first_moment_follows n s) (λ a n s.
      then_follows (punctuation_follows Comma n s) (λ _ n s.
      then_follows (last_moment_follows a n s) (λ b n s.
      then_follows (punctuation_follows CloseWindow n s) (λ _ n s. got_follows)))))

  -- a part is brought, and it is read on from the token that brings it
  brought_follows : {B : Type 0} (f g : Unit → Reader B) (n : ℕ) (s : List Spot) → Follows (g tt (suc n)) s (f tt (suc n) s) → Follows (λ t. and_then (bring (lax parts nesting) n t) g) s (and_then (bring rules n s) f)
  brought_follows f g n s h = by (leb (suc n) rules.parts) refl
    where
      by : (b : Bool) → leb (suc n) rules.parts ≡ b → Follows (λ t. and_then (bring (lax parts nesting) n t) g) s (and_then (cond b (got tt (suc n) s) (refuse 6 s)) f)
      by true e = follows_as (λ t. ap (λ (c : Bool). and_then (cond c (got tt (suc n) t) (refuse 6 t)) g) (room (suc n) e)) h
      by false e = breaks (λ z. omega arith)

  lead_follows : (x : PrefixSign) → FollowsReader (lead (lax parts nesting) x) (lead rules x)
  lead_follows prefixes.Not n s = got_follows
  lead_follows prefixes.Next n [] = by_token_follows (λ k t. cond (is_mark OpenWindow k) (and_then (index_by (lax parts nesting) (index_numeral (signed_numeral (first (rest t)).tok)) n (rest t)) (λ k n s. and_then (punctuation CloseWindow n s) (λ _ n s. got (tree.skipping k.0 k.1) n s))) (got tree.next n t)) got_follows
  lead_follows prefixes.Next n (x ∷ s) =
      by_token_follows (λ k t. cond (is_mark OpenWindow k) (and_then (index_by (lax parts nesting) (index_numeral (signed_numeral (first (rest t)).tok)) n (rest t)) (λ k n s. and_then (punctuation CloseWindow n s) (λ _ n s. got (tree.skipping k.0 k.1) n s))) (got tree.next n t))
      (cond_follows (is_mark OpenWindow x.tok) (then_follows (behind_follows (index_follows n s)) (λ k n s. then_follows (punctuation_follows CloseWindow n s) (λ _ n s. got_follows))) got_follows)
  lead_follows prefixes.Eventually n s = then_follows (window_follows n s) (λ _ n s. got_follows)
  lead_follows prefixes.Always n s = then_follows (window_follows n s) (λ _ n s. got_follows)

  pub link_follows : (x : ConnectiveSign) → FollowsReader (link (lax parts nesting) x) (link rules x)
  link_follows connectives.And n s = got_follows
  link_follows connectives.Or n s = got_follows
  link_follows connectives.Implies n s = got_follows
  link_follows connectives.Iff n s = got_follows
  link_follows connectives.Until n s = then_follows (window_follows n s) (λ _ n s. got_follows)

  ending_follows : (m : MeasureTree) (place : ℕ) (n : ℕ) (s : List Spot) → Follows (ending (lax parts nesting) 0 m n) s (ending rules place m n s)
  ending_follows m place n [] = by_token_follows (λ k t. cond (is_mark Close k) (got m n (rest t)) (refuse 2 t)) refuse_follows
  ending_follows m place n (x ∷ s) = by_token_follows (λ k t. cond (is_mark Close k) (got m n (rest t)) (refuse 2 t)) (cond_follows (is_mark Close x.tok) (rule_follows (rules.bound m) 7 place _ (λ z. omega arith) (λ _. taken_follows)) refuse_follows)

  -- with lax rules the place of a measure's name does not count
  call_follows : (left left' : ℕ) (p q : Reader MeasureTree) (n : ℕ) (x : Spot) (s : List Spot) → left ≤ left' → (ltb 0 left ≡ true → FollowsReader q p) → Follows (call (lax parts nesting) left' q n) (x ∷ s) (call rules left p n (x ∷ s))
  call_follows left left' p q n x s h k =
      brought_follows _ (λ _ n t. and_then (opening left' n (rest t)) (λ _ n t. and_then (q n t) (λ m n t. ending (lax parts nesting) 0 m n t))) n (x ∷ s)
      (read_follows (behind_follows (opening_follows left left' h (suc n) s)) (λ u m t e.
      then_follows (k (opening_got left (suc n) m s t u e) m t) (λ m n t. ending_follows m x.at n t)))

  unary_follows : {p q : Reader MeasureTree} (make : MeasureTree → MeasureTree) → FollowsReader q p → FollowsReader (unary_arguments q make) (unary_arguments p make)
  unary_follows make h n s = then_follows (h n s) (λ m n s. got_follows)

  binary_follows : {p q : Reader MeasureTree} (make : MeasureTree → MeasureTree → MeasureTree) → FollowsReader q p → FollowsReader (binary_arguments q make) (binary_arguments p make)
  binary_follows make h n s = then_follows (h n s) (λ l n s. then_follows (punctuation_follows Comma n s) (λ _ n s. then_follows (h n s) (λ r n s. got_follows)))

  statistic_follows : {p q : Reader MeasureTree} (make : ℕ → ℕ → MeasureTree → MeasureTree) → FollowsReader q p → FollowsReader (window_arguments (lax parts nesting) q make) (window_arguments rules p make)
  statistic_follows make h n s = then_follows (window_follows n s) (λ w n s. then_follows (h n s) (λ m n s. got_follows))

  leaf_follows : (kept : Bool) (number : ℕ) (m : MeasureTree) (n : ℕ) (x : Spot) (s : List Spot) → (number ≡ 2 → ⊥) → Follows (leaf (lax parts nesting) true number m n) (x ∷ s) (leaf rules kept number m n (x ∷ s))
  leaf_follows kept number m n x s ne = rule_follows kept number _ _ ne (λ _. brought_follows _ _ n (x ∷ s) taken_follows)

  measure_at_follows : (left left' : ℕ) (inner inner' : Bool → Reader MeasureTree) (inside : Bool) → left ≤ left' → (ltb 0 left ≡ true → (b : Bool) → FollowsReader (inner' b) (inner b)) → (k : Tok) (n : ℕ) (x : Spot) (s : List Spot) → Follows (measure_at (lax parts nesting) left' inside inner' k n) (x ∷ s) (measure_at rules left inside inner k n (x ∷ s))
  measure_at_follows left left' inner inner' inside h f (numeral sign k) n x s = leaf_follows (rules.numeral k) 3 (tree.numeral sign k) n x s (λ z. omega arith)
  measure_at_follows left left' inner inner' inside h f (variable name) n x s = leaf_follows (rules.column name) 5 (tree.variable name) n x s (λ z. omega arith)
  measure_at_follows left left' inner inner' inside h f (unary u) n x s = call_follows left left' _ _ n x s h (λ l. unary_follows (tree.unary u) (f l inside))
  measure_at_follows left left' inner inner' inside h f (binary b) n x s = call_follows left left' _ _ n x s h (λ l. binary_follows (tree.binary b) (f l inside))
  measure_at_follows left left' inner inner' inside h f (statistic y) n x s = cond_follows inside refuse_follows (call_follows left left' _ _ n x s h (λ l. statistic_follows (tree.over y) (f l true)))
  measure_at_follows left left' inner inner' inside h f (mark q) n x s = refuse_follows
  measure_at_follows left left' inner inner' inside h f change n x s = refuse_follows
  measure_at_follows left left' inner inner' inside h f (comparator c) n x s = refuse_follows
  measure_at_follows left left' inner inner' inside h f (prefix y) n x s = refuse_follows
  measure_at_follows left left' inner inner' inside h f (connective y) n x s = refuse_follows
  measure_at_follows left left' inner inner' inside h f stray n x s = refuse_follows
  measure_at_follows left left' inner inner' inside h f stop n x s = refuse_follows

  measure_by_token : (left left' : ℕ) (inner inner' : Bool → Reader MeasureTree) (inside : Bool) → left ≤ left' → (ltb 0 left ≡ true → (b : Bool) → FollowsReader (inner' b) (inner b)) → FollowsReader (λ n s. measure_at (lax parts nesting) left' inside inner' (first s).tok n s) (λ n s. measure_at rules left inside inner (first s).tok n s)
  measure_by_token left left' inner inner' inside h f n [] = by_token_follows (λ k t. measure_at (lax parts nesting) left' inside inner' k n t) refuse_follows
  measure_by_token left left' inner inner' inside h f n (x ∷ s) = by_token_follows (λ k t. measure_at (lax parts nesting) left' inside inner' k n t) (measure_at_follows left left' inner inner' inside h f x.tok n x s)

  measure_follows : (left left' : ℕ) → left ≤ left' → (inside : Bool) → FollowsReader (measure (lax parts nesting) left' inside) (measure rules left inside)
  unfolding measure
  measure_follows zero zero h inside n s = measure_by_token zero zero (λ _ n s. refuse 2 s) (λ _ n s. refuse 2 s) inside h (λ _ b n s. refuse_follows) n s
  measure_follows zero (suc left') h inside n s = measure_by_token zero (suc left') (λ _ n s. refuse 2 s) (measure (lax parts nesting) left') inside h (λ l. absurd (none_left l)) n s
  measure_follows (suc left) zero h inside n s = absurd (omega arith)
  measure_follows (suc left) (suc left') h inside n s = measure_by_token (suc left) (suc left') (measure rules left) (measure (lax parts nesting) left') inside h (λ _ b. measure_follows left left' (omega arith) b) n s

  compared_follows : (left left' : ℕ) → left ≤ left' → (q : Quantity) (l : MeasureTree) → FollowsReader (compared (lax parts nesting) left' q l) (compared rules left q l)
  compared_follows left left' h q l n [] = by_token_follows (λ k t. compared_by (lax parts nesting) left' q l (comparator_of k) n t) refuse_follows
  compared_follows left left' h q l n (x ∷ s) = by_token_follows (λ k t. compared_by (lax parts nesting) left' q l (comparator_of k) n t) (by (comparator_of x.tok))
    where
      by : (o : Option Comparator) → Follows (compared_by (lax parts nesting) left' q l o n) (x ∷ s) (compared_by rules left q l o n (x ∷ s))
      by None = refuse_follows
      by (Some c) = brought_follows _ _ n (x ∷ s) (then_follows (behind_follows (measure_follows left left' h false (suc n) s)) (λ r n s. got_follows))

  pub comparison_follows : (left left' : ℕ) → left ≤ left' → FollowsReader (comparison (lax parts nesting) left') (comparison rules left)
  comparison_follows left left' h n s = then_follows (measure_follows left left' h false n s) (λ m n s. compared_follows left left' h Value m n s)

  change_follows : (left left' : ℕ) → left ≤ left' → (n : ℕ) (x : Spot) (s : List Spot) → Follows (change_comparison (lax parts nesting) left' n) (x ∷ s) (change_comparison rules left n (x ∷ s))
  change_follows left left' h n x s =
      then_follows (behind_follows (opening_follows left left' h n s)) (λ _ n s.
      then_follows (measure_follows (pred left) (pred left') (omega arith) false n s) (λ m n s.
      then_follows (punctuation_follows Close n s) (λ _ n s. compared_follows left left' h Change m n s)))

  prefix_sign_follows : (left left' : ℕ) → left ≤ left' → (n : ℕ) (x : Spot) (s : List Spot) → Follows (prefix_sign (lax parts nesting) left' n) (x ∷ s) (prefix_sign rules left n (x ∷ s))
  prefix_sign_follows left left' h n x s = rule_follows (ltb 0 left && leb (suc n) rules.parts) 6 _ _ (λ z. omega arith) (λ e. let b = and_parts (ltb 0 left) (leb (suc n) rules.parts) e in passing_follows _ (ap₂ ◌&&◌ (more_left left left' h b.0) (room (suc n) b.1)) taken_follows)

  prefixed_follows : (left left' : ℕ) (inner inner' : Reader PropertyTree) (y : PrefixSign) (n : ℕ) (x : Spot) (s : List Spot) → left ≤ left' → (ltb 0 left ≡ true → FollowsReader inner' inner) → Follows (prefixed_by (lax parts nesting) left' y inner' n) (x ∷ s) (prefixed_by rules left y inner n (x ∷ s))
  prefixed_follows left left' inner inner' y n x s h f =
      read_follows (prefix_sign_follows left left' h n x s) (λ u m t e.
      then_follows (lead_follows y m t) (λ l k v.
      then_follows (f (prefix_sign_got rules left n m (x ∷ s) t u e) k v) (λ p n s. got_follows)))

  bracketed_follows : (left left' : ℕ) (whole whole' : Reader PropertyTree) → left ≤ left' → (ltb 0 left ≡ true → FollowsReader whole' whole) → FollowsReader (bracketed_by left' whole') (bracketed_by left whole)
  bracketed_follows left left' whole whole' h f n s =
      read_follows (opening_follows left left' h n s) (λ u m t e.
      then_follows (f (opening_got left n m s t u e) m t) (λ p n s.
      then_follows (punctuation_follows Close n s) (λ _ n s. got_follows)))

  pub operand_at_follows : (left left' : ℕ) (inner inner' whole whole' : Reader PropertyTree) → left ≤ left' → (ltb 0 left ≡ true → FollowsReader inner' inner) → (ltb 0 left ≡ true → FollowsReader whole' whole) → (k : Tok) (n : ℕ) (x : Spot) (s : List Spot) → Follows (operand_at (lax parts nesting) left' inner' whole' k n) (x ∷ s) (operand_at rules left inner whole k n (x ∷ s))
  operand_at_follows left left' inner inner' whole whole' h f g (mark q) n x s = bracketed_follows left left' whole whole' h g n (x ∷ s)
  operand_at_follows left left' inner inner' whole whole' h f g (prefix y) n x s = prefixed_follows left left' inner inner' y n x s h f
  operand_at_follows left left' inner inner' whole whole' h f g change n x s = change_follows left left' h n x s
  operand_at_follows left left' inner inner' whole whole' h f g (comparator c) n x s = comparison_follows left left' h n (x ∷ s)
  operand_at_follows left left' inner inner' whole whole' h f g (unary u) n x s = comparison_follows left left' h n (x ∷ s)
  operand_at_follows left left' inner inner' whole whole' h f g (binary b) n x s = comparison_follows left left' h n (x ∷ s)
  operand_at_follows left left' inner inner' whole whole' h f g (statistic y) n x s = comparison_follows left left' h n (x ∷ s)
  operand_at_follows left left' inner inner' whole whole' h f g (connective y) n x s = comparison_follows left left' h n (x ∷ s)
  operand_at_follows left left' inner inner' whole whole' h f g (numeral sign k) n x s = comparison_follows left left' h n (x ∷ s)
  operand_at_follows left left' inner inner' whole whole' h f g (variable name) n x s = comparison_follows left left' h n (x ∷ s)
  operand_at_follows left left' inner inner' whole whole' h f g stray n x s = comparison_follows left left' h n (x ∷ s)
  operand_at_follows left left' inner inner' whole whole' h f g stop n x s = comparison_follows left left' h n (x ∷ s)
