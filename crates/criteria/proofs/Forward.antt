-- Reading goes forward: no reader leaves more tokens than there were.
use Rattle.std.proofs.Common.{◌≡◌, ℕ, zero, suc, pred, ◌<◌, ◌≤◌, Bool, true, false, cond, ◌&&◌, ltb, leb, List, [], ◌∷◌, length, Some, None, Option, subst, arith}
use Rattle.parts.specs.declared.kinds.Comparator.{Comparator}
use Rattle.parts.specs.declared.kinds.Quantity.{Quantity}
use Rattle.parts.specs.declared.kinds.Quantity.TheVariants.{Value, Change}
use Rattle.tokens.specs.Tokens.{Spot, Tok, mark, change, comparator, unary, binary, statistic, prefix, connective, numeral, variable, stray, stop}
use Rattle.tokens.specs.declared.words.ConnectiveSign.{ConnectiveSign}
use Rattle.tokens.specs.declared.words.ConnectiveSign.TheVariants as connectives
use Rattle.tokens.specs.declared.words.PrefixSign.{PrefixSign}
use Rattle.tokens.specs.declared.words.PrefixSign.TheVariants as prefixes
use Rattle.tokens.specs.declared.words.Punctuation.{Punctuation}
use Rattle.tokens.specs.declared.words.Punctuation.TheVariants.{Open, Close, OpenWindow, CloseWindow, Comma}
use Rattle.tokens.specs.declared.words.Sign.{Sign}
use Rattle.grammar.specs.Layers.{loosest}
use Rattle.grammar.specs.Reading.{Outcome, Reader, got, fault, and_then, bracketed_by, bring, call, change_comparison, comparator_of, compared, compared_by, comparison, ending, first, first_moment, index_by, index_numeral, is_mark, last_moment, lead, leaf, link, linked, links, measure, measure_at, next_lead, opening, operand, operand_at, prefix_sign, prefixed_by, punctuation, refuse, rest, sign_at, signed_numeral, taking, tier, unary_arguments, binary_arguments, window_arguments, window, window_behind, window_numeral}
use Rattle.grammar.specs.Steps.{Rules}
use Rattle.grammar.specs.Trees as tree
use Rattle.grammar.specs.Trees.{MeasureTree, PropertyTree}

-- what is read leaves at most so many tokens
abbrev pub Within : {A : Type 0} → Outcome A → ℕ → Type 0
Within (got a n s) m = length s ≤ m
Within (fault number place s) m = Unit {0}

abbrev Steady : {A : Type 0} → Reader A → Type 0
Steady read = (n : ℕ) (s : List Spot) (m : ℕ) → length s ≤ m → Within (read n s) m

then_within : {A C : Type 0} (o : Outcome A) (f : A → Reader C) (m : ℕ) → Within o m → ((a : A) (n : ℕ) (s : List Spot) → length s ≤ m → Within (f a n s) m) → Within (and_then o f) m
then_within (got a n s) f m h k = k a n s h
then_within (fault number place s) f m h k = tt

rest_within : (s : List Spot) (m : ℕ) → length s ≤ m → length (rest s) ≤ m
rest_within [] m h = h
rest_within (x ∷ xs) m h = omega arith

cond_within : {A : Type 0} (b : Bool) (o p : Outcome A) (m : ℕ) → Within o m → Within p m → Within (cond b o p) m
cond_within true o p m h k = h
cond_within false o p m h k = k

taking_steady : {A : Type 0} (kept : Bool) (number : ℕ) (a : A) → Steady (taking kept number a)
taking_steady kept number a n s m h = cond_within kept (got a n (rest s)) (refuse number s) m (rest_within s m h) tt

bring_steady : (rules : Rules) → Steady (bring rules)
bring_steady rules n s m h = cond_within (leb (suc n) rules.parts) (got tt (suc n) s) (refuse 6 s) m h tt

punctuation_steady : (p : Punctuation) → Steady (punctuation p)
punctuation_steady p n s m h = taking_steady (is_mark p (first s).tok) 2 tt n s m h

opening_steady : (left : ℕ) → Steady (opening left)
opening_steady left n s m h = cond_within (is_mark Open (first s).tok) (taking (ltb 0 left) 6 tt n s) (refuse 2 s) m (taking_steady (ltb 0 left) 6 tt n s m h) tt

first_steady : (rules : Rules) (o : Option ℕ) → Steady (first_moment rules o)
first_steady rules None n s m h = tt
first_steady rules (Some a) n s m h = taking_steady (rules.numeral a) 3 a n s m h

last_steady : (rules : Rules) (a : ℕ) (o : Option ℕ) → Steady (last_moment rules a o)
last_steady rules a None n s m h = tt
last_steady rules a (Some b) n s m h = cond_within (rules.numeral b) (taking (rules.order a b) 4 b n s) (refuse 3 s) m (taking_steady (rules.order a b) 4 b n s m h) tt

behind_steady : (rules : Rules) (a : ℕ) → Steady (window_behind rules a)
behind_steady rules a n s m h =
    then_within (punctuation Comma n s) _ m (punctuation_steady Comma n s m h) (λ _ n s h.
    then_within (last_moment rules a (window_numeral (signed_numeral (first s).tok)) n s) _ m (last_steady rules a (window_numeral (signed_numeral (first s).tok)) n s m h) (λ b n s h.
    then_within (punctuation CloseWindow n s) _ m (punctuation_steady CloseWindow n s m h) (λ _ n s h. h)))

window_steady : (rules : Rules) → Steady (window rules)
window_steady rules n s m h =
    then_within (punctuation OpenWindow n s) _ m (punctuation_steady OpenWindow n s m h) (λ _ n s h.
    then_within (first_moment rules (window_numeral (signed_numeral (first s).tok)) n s) (window_behind rules) m (first_steady rules (window_numeral (signed_numeral (first s).tok)) n s m h) (λ a n s h. behind_steady rules a n s m h))

ending_steady : (rules : Rules) (place : ℕ) (t : MeasureTree) → Steady (ending rules place t)
ending_steady rules place t n s m h = cond_within (is_mark Close (first s).tok) (cond (rules.bound t) (got t n (rest s)) (fault 7 place s)) (refuse 2 s) m (cond_within (rules.bound t) (got t n (rest s)) (fault 7 place s) m (rest_within s m h) tt) tt

call_steady : (rules : Rules) (left : ℕ) (arguments : Reader MeasureTree) → Steady arguments → Steady (call rules left arguments)
call_steady rules left arguments k n s m h =
    then_within (bring rules n s) _ m (bring_steady rules n s m h) (λ _ n t h.
    then_within (opening left n (rest t)) _ m (opening_steady left n (rest t) m (rest_within t m h)) (λ _ n t h.
    then_within (arguments n t) _ m (k n t m h) (λ a n t h. ending_steady rules (first s).at a n t m h)))

leaf_steady : (rules : Rules) (kept : Bool) (number : ℕ) (a : MeasureTree) → Steady (leaf rules kept number a)
leaf_steady rules kept number a n s m h =
    cond_within kept (and_then (bring rules n s) (λ _ n s. got a n (rest s))) (refuse number s) m
    (then_within (bring rules n s) (λ _ n s. got a n (rest s)) m (bring_steady rules n s m h) (λ _ n s h. (rest_within s m h)))
    tt

measure_at_steady : (rules : Rules) (left : ℕ) (inside : Bool) (inner : Bool → Reader MeasureTree) → ((i : Bool) → Steady (inner i)) → (t : Tok) → Steady (measure_at rules left inside inner t)
measure_at_steady rules left inside inner k (numeral sign x) n s m h = leaf_steady rules (rules.numeral x) 3 (tree.numeral sign x) n s m h
measure_at_steady rules left inside inner k (variable name) n s m h = leaf_steady rules (rules.column name) 5 (tree.variable name) n s m h
measure_at_steady rules left inside inner k (unary u) n s m h =
    call_steady rules left (unary_arguments (inner inside) (tree.unary u)) (λ n s m h. then_within (inner inside n s) _ m (k inside n s m h) (λ a n s h. h)) n s m h
measure_at_steady rules left inside inner k (binary b) n s m h =
    call_steady rules left (binary_arguments (inner inside) (tree.binary b)) (λ n s m h.
    then_within (inner inside n s) _ m (k inside n s m h) (λ l n s h.
    then_within (punctuation Comma n s) _ m (punctuation_steady Comma n s m h) (λ _ n s h.
    then_within (inner inside n s) _ m (k inside n s m h) (λ r n s h. h)))) n s m h
measure_at_steady rules left inside inner k (statistic x) n s m h =
    cond_within inside (refuse 2 s) (call rules left (window_arguments rules (inner true) (tree.over x)) n s) m tt
    (call_steady rules left (window_arguments rules (inner true) (tree.over x)) (λ n s m h.
    then_within (window rules n s) _ m (window_steady rules n s m h) (λ w n s h.
    then_within (inner true n s) _ m (k true n s m h) (λ a n s h. h))) n s m h)
measure_at_steady rules left inside inner k (mark q) n s m h = tt
measure_at_steady rules left inside inner k change n s m h = tt
measure_at_steady rules left inside inner k (comparator c) n s m h = tt
measure_at_steady rules left inside inner k (prefix x) n s m h = tt
measure_at_steady rules left inside inner k (connective x) n s m h = tt
measure_at_steady rules left inside inner k stray n s m h = tt
measure_at_steady rules left inside inner k stop n s m h = tt

measure_steady : (rules : Rules) (left : ℕ) (inside : Bool) → Steady (measure rules left inside)
unfolding measure
measure_steady rules zero inside n s m h = measure_at_steady rules zero inside (λ inside n s. refuse 2 s) (λ i n s m h. tt) (first s).tok n s m h
measure_steady rules (suc left) inside n s m h = measure_at_steady rules (suc left) inside (measure rules left) (measure_steady rules left) (first s).tok n s m h

compared_by_steady : (rules : Rules) (left : ℕ) (q : Quantity) (l : MeasureTree) (o : Option Comparator) → Steady (compared_by rules left q l o)
compared_by_steady rules left q l None n s m h = tt
compared_by_steady rules left q l (Some c) n s m h =
    then_within (bring rules n s) _ m (bring_steady rules n s m h) (λ _ n s h.
    then_within (measure rules left false n (rest s)) _ m (measure_steady rules left false n (rest s) m (rest_within s m h)) (λ r n s h. h))

comparison_steady : (rules : Rules) (left : ℕ) → Steady (comparison rules left)
comparison_steady rules left n s m h = then_within (measure rules left false n s) (compared rules left Value) m (measure_steady rules left false n s m h) (λ l n s h. compared_by_steady rules left Value l (comparator_of (first s).tok) n s m h)

change_steady : (rules : Rules) (left : ℕ) → Steady (change_comparison rules left)
change_steady rules left n s m h =
    then_within (opening left n (rest s)) _ m (opening_steady left n (rest s) m (rest_within s m h)) (λ _ n s h.
    then_within (measure rules (pred left) false n s) _ m (measure_steady rules (pred left) false n s m h) (λ l n s h.
    then_within (punctuation Close n s) _ m (punctuation_steady Close n s m h) (λ _ n s h. compared_by_steady rules left Change l (comparator_of (first s).tok) n s m h)))

index_steady : (rules : Rules) (o : Option (Sign × ℕ)) → Steady (index_by rules o)
index_steady rules None n s m h = tt
index_steady rules (Some k) n s m h = taking_steady (rules.index k.1) 3 k n s m h

next_steady : (rules : Rules) → Steady (next_lead rules)
next_steady rules n s m h =
    cond_within (is_mark OpenWindow (first s).tok) _ (got tree.next n s) m
    (then_within (index_by rules (index_numeral (signed_numeral (first (rest s)).tok)) n (rest s)) _ m (index_steady rules (index_numeral (signed_numeral (first (rest s)).tok)) n (rest s) m (rest_within s m h)) (λ k n s h.
    then_within (punctuation CloseWindow n s) _ m (punctuation_steady CloseWindow n s m h) (λ _ n s h. h)))
    h

lead_steady : (rules : Rules) (x : PrefixSign) → Steady (lead rules x)
lead_steady rules prefixes.Not n s m h = h
lead_steady rules prefixes.Next n s m h = next_steady rules n s m h
lead_steady rules prefixes.Eventually n s m h = then_within (window rules n s) _ m (window_steady rules n s m h) (λ w n s h. h)
lead_steady rules prefixes.Always n s m h = then_within (window rules n s) _ m (window_steady rules n s m h) (λ w n s h. h)

prefixed_steady : (rules : Rules) (left : ℕ) (x : PrefixSign) (inner : Reader PropertyTree) → Steady inner → Steady (prefixed_by rules left x inner)
prefixed_steady rules left x inner k n s m h =
    then_within (prefix_sign rules left n s) _ m (taking_steady (ltb 0 left && leb (suc n) rules.parts) 6 tt (suc n) s m h) (λ _ n s h.
    then_within (lead rules x n s) _ m (lead_steady rules x n s m h) (λ l n s h.
    then_within (inner n s) _ m (k n s m h) (λ p n s h. h)))

bracketed_steady : (left : ℕ) (inner : Reader PropertyTree) → Steady inner → Steady (bracketed_by left inner)
bracketed_steady left inner k n s m h =
    then_within (opening left n s) _ m (opening_steady left n s m h) (λ _ n s h.
    then_within (inner n s) _ m (k n s m h) (λ p n s h.
    then_within (punctuation Close n s) _ m (punctuation_steady Close n s m h) (λ _ n s h. h)))

operand_at_steady : (rules : Rules) (left : ℕ) (inner whole : Reader PropertyTree) → Steady inner → Steady whole → (t : Tok) → Steady (operand_at rules left inner whole t)
operand_at_steady rules left inner whole j k (mark q) n s m h = bracketed_steady left whole k n s m h
operand_at_steady rules left inner whole j k (prefix x) n s m h = prefixed_steady rules left x inner j n s m h
operand_at_steady rules left inner whole j k change n s m h = change_steady rules left n s m h
operand_at_steady rules left inner whole j k (comparator c) n s m h = comparison_steady rules left n s m h
operand_at_steady rules left inner whole j k (unary u) n s m h = comparison_steady rules left n s m h
operand_at_steady rules left inner whole j k (binary b) n s m h = comparison_steady rules left n s m h
operand_at_steady rules left inner whole j k (statistic x) n s m h = comparison_steady rules left n s m h
operand_at_steady rules left inner whole j k (connective x) n s m h = comparison_steady rules left n s m h
operand_at_steady rules left inner whole j k (numeral sign x) n s m h = comparison_steady rules left n s m h
operand_at_steady rules left inner whole j k (variable name) n s m h = comparison_steady rules left n s m h
operand_at_steady rules left inner whole j k stray n s m h = comparison_steady rules left n s m h
operand_at_steady rules left inner whole j k stop n s m h = comparison_steady rules left n s m h

link_steady : (rules : Rules) (x : ConnectiveSign) → Steady (link rules x)
link_steady rules connectives.And n s m h = h
link_steady rules connectives.Or n s m h = h
link_steady rules connectives.Implies n s m h = h
link_steady rules connectives.Iff n s m h = h
link_steady rules connectives.Until n s m h = then_within (window rules n s) _ m (window_steady rules n s m h) (λ w n s h. h)

brought_within : (b : Bool) (f : Unit {0} → Reader PropertyTree) (n : ℕ) (s : List Spot) (m : ℕ) → Within (f tt (suc n) s) m → Within (and_then (cond b (got tt (suc n) s) (refuse 6 s)) f) m
brought_within true f n s m h = h
brought_within false f n s m h = tt

-- a link takes the connective's sign
linked_within : (rules : Rules) (inner : Reader PropertyTree) → Steady inner → (p : PropertyTree) (x : ConnectiveSign) (n : ℕ) (s : List Spot) (m : ℕ) → length (rest s) ≤ m → Within (linked rules inner p x n s) m
linked_within rules inner k p x n s m h =
    brought_within (leb (suc n) rules.parts) (λ _ n s. and_then (link rules x n (rest s)) (λ l n s. and_then (inner n s) (λ q n s. got (tree.joined l p q) n s))) n s m
    (then_within (link rules x (suc n) (rest s)) _ m (link_steady rules x (suc n) (rest s) m h) (λ l n s h.
    then_within (inner n s) _ m (k n s m h) (λ q n s h. h)))

sign_within : (o : Option ConnectiveSign) (a : Outcome PropertyTree) (f : ConnectiveSign → Outcome PropertyTree) (m : ℕ) → Within a m → ((x : ConnectiveSign) → Within (f x) m) → Within (elim o [ None ↦ a | Some x ↦ f x ]) m
sign_within None a f m h k = h
sign_within (Some x) a f m h k = k x

links_steady : (most : ℕ) (rules : Rules) (level : ℕ) (inner : Reader PropertyTree) → Steady inner → (p : PropertyTree) → Steady (links most rules level inner p)
unfolding links
links_steady zero rules level inner k p n s m h = h
links_steady (suc most) rules level inner k p n s m h =
    sign_within (sign_at level (first s).tok) (got p n s) (λ x. and_then (linked rules inner p x n s) (links most rules level inner)) m h
    (λ x. then_within (linked rules inner p x n s) (links most rules level inner) m (linked_within rules inner k p x n s m (rest_within s m h)) (λ q n s h. links_steady most rules level inner k q n s m h))

pub tier_steady : (rules : Rules) (operand : Reader PropertyTree) → Steady operand → (level : ℕ) → Steady (tier rules operand level)
unfolding tier
tier_steady rules operand k zero n s m h = k n s m h
tier_steady rules operand k (suc level) n s m h =
    then_within (tier rules operand level n s) (λ p n s. links (length s) rules (suc level) (tier rules operand level) p n s) m (tier_steady rules operand k level n s m h)
    (λ p n s h. links_steady (length s) rules (suc level) (tier rules operand level) (tier_steady rules operand k level) p n s m h)

operand_steady : (rules : Rules) (left : ℕ) → Steady (operand rules left)
unfolding operand
operand_steady rules zero n s m h = operand_at_steady rules zero (λ n s. refuse 2 s) (λ n s. refuse 2 s) (λ n s m h. tt) (λ n s m h. tt) (first s).tok n s m h
operand_steady rules (suc left) n s m h =
    operand_at_steady rules (suc left) (operand rules left) (tier rules (operand rules left) loosest) (operand_steady rules left) (tier_steady rules (operand rules left) (operand_steady rules left) loosest) (first s).tok n s m h

within_got : {A : Type 0} (o : Outcome A) (m : ℕ) (a : A) (n : ℕ) (s : List Spot) → o ≡ got a n s → Within o m → length s ≤ m
within_got o m a n s e h = subst (λ (o : Outcome _). Within o m) e h

pub some_left : (level : ℕ) (x : ConnectiveSign) (s : List Spot) → Some x ≡ sign_at level (first s).tok → length (rest s) < length s
some_left level x [] e = let z : ◌≡◌ {A = ℕ} 0 1 = cc in absurd (omega arith)
some_left level x (y ∷ ys) e = omega arith

-- a link leaves fewer tokens
pub linked_forward : (rules : Rules) (left level sign : ℕ) (p : PropertyTree) (x : ConnectiveSign) (n : ℕ) (s : List Spot) (a : PropertyTree) (k : ℕ) (u : List Spot) → Some x ≡ sign_at sign (first s).tok → linked rules (tier rules (operand rules left) level) p x n s ≡ got a k u → length u < length s
linked_forward rules left level sign p x n s a k u e r =
    let fewer = some_left sign x s e in
    let h = within_got (linked rules (tier rules (operand rules left) level) p x n s) (length (rest s)) a k u r (linked_within rules (tier rules (operand rules left) level) (tier_steady rules (operand rules left) (operand_steady rules left) level) p x n s (length (rest s)) (omega arith)) in
    omega (arith, fewer, h)
