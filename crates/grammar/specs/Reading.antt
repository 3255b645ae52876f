-- How a text is read: token by token from the left, up to the first token that cannot follow or breaks a rule. Assumes nothing.
use Rattle.std.specs.Prelude.{ℕ, zero, suc, pred, Bool, true, false, cond, ◌&&◌, List, [], ◌∷◌, length, Some, None, Option, ◌==◌, nat_le, nat_lt}
use Rattle.parts.specs.declared.kinds.Comparator.{Comparator}
use Rattle.parts.specs.declared.kinds.Quantity.{Quantity}
use Rattle.parts.specs.declared.kinds.Quantity.TheVariants.{Value, Change}
use Rattle.tokens.specs.Tokens.{Tok, Spot, is_stop, mark, change, comparator, unary, binary, statistic, prefix, connective, numeral, variable, stray, stop}
use Rattle.tokens.specs.declared.words.ConnectiveSign.{ConnectiveSign}
use Rattle.tokens.specs.declared.words.ConnectiveSign.TheVariants as connectives
use Rattle.tokens.specs.declared.words.PrefixSign.{PrefixSign}
use Rattle.tokens.specs.declared.words.PrefixSign.TheVariants as prefixes
use Rattle.tokens.specs.declared.words.Punctuation.{Punctuation}
use Rattle.tokens.specs.declared.words.Punctuation.TheVariants.{Open, Close, OpenWindow, CloseWindow, Comma}
use Rattle.tokens.specs.declared.words.Sign.{Sign}
use Rattle.tokens.specs.declared.words.Sign.TheVariants.{Unsigned, Plus, Minus}
use Rattle.grammar.specs.Layers.{loosest}
use Rattle.grammar.specs.Steps.{Rules}
use Rattle.grammar.specs.Trees as tree
use Rattle.grammar.specs.Trees.{MeasureTree, Lead, Link, PropertyTree}

-- What a reader answers: what it read, the parts brought so far and the tokens that are left; or a refusal's number and place, and the tokens from the faulty one on.
pub data Outcome (A : Type 0) : Type 0 where
  got : A → ℕ → List Spot → Outcome A
  fault : ℕ → ℕ → List Spot → Outcome A

-- after so many parts, from these tokens on
abbrev pub Reader : Type 0 → Type 0
Reader A = ℕ → List Spot → Outcome A

abbrev pub and_then : {A B : Type 0} → Outcome A → (A → Reader B) → Outcome B
and_then (got a n s) f = f a n s
and_then (fault number place s) f = fault number place s

-- the token at hand; behind the end of the text there is none
abbrev pub first : List Spot → Spot
first [] = record { tok = stop; at = 0 }
first (x ∷ xs) = x

abbrev pub rest : List Spot → List Spot
rest [] = []
rest (x ∷ xs) = xs

abbrev pub refuse : {A : Type 0} → ℕ → List Spot → Outcome A
refuse number s = fault number (first s).at s

-- the token at hand is taken if it keeps a rule, else refused by that rule's number
abbrev pub taking : {A : Type 0} → Bool → ℕ → A → Reader A
taking kept number a n s = cond kept (got a n (rest s)) (refuse number s)

-- the token at hand brings a part
abbrev pub bring : Rules → Reader Unit
bring rules n s = cond (nat_le (suc n) rules.parts) (got tt (suc n) s) (refuse 6 s)

abbrev pub code : Punctuation → ℕ
code Open = 0
code Close = 1
code OpenWindow = 2
code CloseWindow = 3
code Comma = 4

abbrev pub is_mark : Punctuation → Tok → Bool
is_mark p (mark q) = code p == code q
is_mark p change = false
is_mark p (comparator c) = false
is_mark p (unary u) = false
is_mark p (binary b) = false
is_mark p (statistic s) = false
is_mark p (prefix x) = false
is_mark p (connective x) = false
is_mark p (numeral s n) = false
is_mark p (variable name) = false
is_mark p stray = false
is_mark p stop = false

abbrev pub punctuation : Punctuation → Reader Unit
punctuation p n s = taking (is_mark p (first s).tok) 2 tt n s

-- an opening bracket, where so many nestings are left
abbrev pub opening : ℕ → Reader Unit
opening left n s = cond (is_mark Open (first s).tok) (taking (nat_lt 0 left) 6 tt n s) (refuse 2 s)

abbrev pub signed_numeral : Tok → Option (Sign × ℕ)
signed_numeral (mark q) = None
signed_numeral change = None
signed_numeral (comparator c) = None
signed_numeral (unary u) = None
signed_numeral (binary b) = None
signed_numeral (statistic s) = None
signed_numeral (prefix x) = None
signed_numeral (connective x) = None
signed_numeral (numeral s n) = Some (s, n)
signed_numeral (variable name) = None
signed_numeral stray = None
signed_numeral stop = None

-- the numerals of a window have no sign, and the index of X has no minus
abbrev pub window_numeral : Option (Sign × ℕ) → Option ℕ
window_numeral None = None
window_numeral (Some (Unsigned, n)) = Some n
window_numeral (Some (Plus, n)) = None
window_numeral (Some (Minus, n)) = None

abbrev pub index_numeral : Option (Sign × ℕ) → Option (Sign × ℕ)
index_numeral None = None
index_numeral (Some (Unsigned, n)) = Some (Unsigned, n)
index_numeral (Some (Plus, n)) = Some (Plus, n)
index_numeral (Some (Minus, n)) = None

abbrev pub first_moment : Rules → Option ℕ → Reader ℕ
first_moment rules None n s = refuse 2 s
first_moment rules (Some a) n s = taking (rules.numeral a) 3 a n s

abbrev pub last_moment : Rules → ℕ → Option ℕ → Reader ℕ
last_moment rules a None n s = refuse 2 s
last_moment rules a (Some b) n s = cond (rules.numeral b) (taking (rules.order a b) 4 b n s) (refuse 3 s)

-- a window behind its first numeral
abbrev pub window_behind : Rules → ℕ → Reader (ℕ × ℕ)
window_behind rules a n s =
    and_then (punctuation Comma n s) (λ _ n s.
    and_then (last_moment rules a (window_numeral (signed_numeral (first s).tok)) n s) (λ b n s.
    and_then (punctuation CloseWindow n s) (λ _ n s. got (a, b) n s)))

abbrev pub window : Rules → Reader (ℕ × ℕ)
window rules n s =
    and_then (punctuation OpenWindow n s) (λ _ n s.
    and_then (first_moment rules (window_numeral (signed_numeral (first s).tok)) n s) (window_behind rules))

-- the closing bracket of a measure, whose name stands at `place`
abbrev pub ending : Rules → ℕ → MeasureTree → Reader MeasureTree
ending rules place m n s = cond (is_mark Close (first s).tok) (cond (rules.bound m) (got m n (rest s)) (fault 7 place s)) (refuse 2 s)

-- the arguments of a measure behind its opening bracket, `inner` reading one
abbrev pub unary_arguments : (Reader MeasureTree) → (MeasureTree → MeasureTree) → Reader MeasureTree
unary_arguments inner make n s = and_then (inner n s) (λ m n s. got (make m) n s)

abbrev pub binary_arguments : (Reader MeasureTree) → (MeasureTree → MeasureTree → MeasureTree) → Reader MeasureTree
binary_arguments inner make n s =
    and_then (inner n s) (λ l n s.
    and_then (punctuation Comma n s) (λ _ n s.
    and_then (inner n s) (λ r n s. got (make l r) n s)))

abbrev pub window_arguments : Rules → (Reader MeasureTree) → (ℕ → ℕ → MeasureTree → MeasureTree) → Reader MeasureTree
window_arguments rules inner make n s =
    and_then (window rules n s) (λ w n s.
    and_then (inner n s) (λ m n s. got (make w.0 w.1 m) n s))

-- a measure with arguments, from its name on
abbrev pub call : Rules → ℕ → (Reader MeasureTree) → Reader MeasureTree
call rules left arguments n s =
    and_then (bring rules n s) (λ _ n t.
    and_then (opening left n (rest t)) (λ _ n t.
    and_then (arguments n t) (λ m n t. ending rules (first s).at m n t)))

-- a numeral or a variable
abbrev pub leaf : Rules → Bool → ℕ → MeasureTree → Reader MeasureTree
leaf rules kept number m n s = cond kept (and_then (bring rules n s) (λ _ n s. got m n (rest s))) (refuse number s)

-- the measure that begins with this token, where so many nestings are left, and `inner` reads an argument
abbrev pub measure_at : Rules → ℕ → Bool → (Bool → Reader MeasureTree) → Tok → Reader MeasureTree
measure_at rules left inside inner (numeral sign k) n s = leaf rules (rules.numeral k) 3 (tree.numeral sign k) n s
measure_at rules left inside inner (variable name) n s = leaf rules (rules.column name) 5 (tree.variable name) n s
measure_at rules left inside inner (unary u) n s = call rules left (unary_arguments (inner inside) (tree.unary u)) n s
measure_at rules left inside inner (binary b) n s = call rules left (binary_arguments (inner inside) (tree.binary b)) n s
measure_at rules left inside inner (statistic x) n s = cond inside (refuse 2 s) (call rules left (window_arguments rules (inner true) (tree.over x)) n s)
measure_at rules left inside inner (mark q) n s = refuse 2 s
measure_at rules left inside inner change n s = refuse 2 s
measure_at rules left inside inner (comparator c) n s = refuse 2 s
measure_at rules left inside inner (prefix x) n s = refuse 2 s
measure_at rules left inside inner (connective x) n s = refuse 2 s
measure_at rules left inside inner stray n s = refuse 2 s
measure_at rules left inside inner stop n s = refuse 2 s

-- Where no nesting is left, the opening bracket is refused and no argument is read.
unfoldable pub measure : Rules → ℕ → Bool → Reader MeasureTree
measure rules zero inside n s = measure_at rules zero inside (λ inside n s. refuse 2 s) (first s).tok n s
measure rules (suc left) inside n s = measure_at rules (suc left) inside (measure rules left) (first s).tok n s

abbrev pub comparator_of : Tok → Option Comparator
comparator_of (mark q) = None
comparator_of change = None
comparator_of (comparator c) = Some c
comparator_of (unary u) = None
comparator_of (binary b) = None
comparator_of (statistic s) = None
comparator_of (prefix x) = None
comparator_of (connective x) = None
comparator_of (numeral s n) = None
comparator_of (variable name) = None
comparator_of stray = None
comparator_of stop = None

-- a comparison from its comparator on
abbrev pub compared_by : Rules → ℕ → Quantity → MeasureTree → Option Comparator → Reader PropertyTree
compared_by rules left q l None n s = refuse 2 s
compared_by rules left q l (Some c) n s =
    and_then (bring rules n s) (λ _ n s.
    and_then (measure rules left false n (rest s)) (λ r n s. got (tree.compare q c l r) n s))

abbrev pub compared : Rules → ℕ → Quantity → MeasureTree → Reader PropertyTree
compared rules left q l n s = compared_by rules left q l (comparator_of (first s).tok) n s

abbrev pub comparison : Rules → ℕ → Reader PropertyTree
comparison rules left n s = and_then (measure rules left false n s) (compared rules left Value)

-- from d on
abbrev pub change_comparison : Rules → ℕ → Reader PropertyTree
change_comparison rules left n s =
    and_then (opening left n (rest s)) (λ _ n s.
    and_then (measure rules (pred left) false n s) (λ m n s.
    and_then (punctuation Close n s) (λ _ n s. compared rules left Change m n s)))

abbrev pub index_by : Rules → Option (Sign × ℕ) → Reader (Sign × ℕ)
index_by rules None n s = refuse 2 s
index_by rules (Some k) n s = taking (rules.index k.1) 3 k n s

-- X alone, or with an index
abbrev pub next_lead : Rules → Reader Lead
next_lead rules n s =
    cond (is_mark OpenWindow (first s).tok)
    (and_then (index_by rules (index_numeral (signed_numeral (first (rest s)).tok)) n (rest s)) (λ k n s.
    and_then (punctuation CloseWindow n s) (λ _ n s. got (tree.skipping k.0 k.1) n s)))
    (got tree.next n s)

-- a prefix behind its sign
abbrev pub lead : Rules → PrefixSign → Reader Lead
lead rules prefixes.Not n s = got tree.negation n s
lead rules prefixes.Next n s = next_lead rules n s
lead rules prefixes.Eventually n s = and_then (window rules n s) (λ w n s. got (tree.eventually w.0 w.1) n s)
lead rules prefixes.Always n s = and_then (window rules n s) (λ w n s. got (tree.always w.0 w.1) n s)

-- the sign of a prefix brings a part and a nesting
abbrev pub prefix_sign : Rules → ℕ → Reader Unit
prefix_sign rules left n s = taking (nat_lt 0 left && nat_le (suc n) rules.parts) 6 tt (suc n) s

-- a prefix and its operand, which `inner` reads
abbrev pub prefixed_by : Rules → ℕ → PrefixSign → (Reader PropertyTree) → Reader PropertyTree
prefixed_by rules left x inner n s =
    and_then (prefix_sign rules left n s) (λ _ n s.
    and_then (lead rules x n s) (λ l n s.
    and_then (inner n s) (λ p n s. got (tree.prefixed l p) n s)))

-- a formula in brackets, which `inner` reads
abbrev pub bracketed_by : ℕ → (Reader PropertyTree) → Reader PropertyTree
bracketed_by left inner n s =
    and_then (opening left n s) (λ _ n s.
    and_then (inner n s) (λ p n s.
    and_then (punctuation Close n s) (λ _ n s. got (tree.bracketed p) n s)))

-- what begins with this token and is no connective's: `inner` reads a prefix's operand, `whole` a formula
abbrev pub operand_at : Rules → ℕ → (Reader PropertyTree) → (Reader PropertyTree) → Tok → Reader PropertyTree
operand_at rules left inner whole (mark q) n s = bracketed_by left whole n s
operand_at rules left inner whole (prefix x) n s = prefixed_by rules left x inner n s
operand_at rules left inner whole change n s = change_comparison rules left n s
operand_at rules left inner whole (comparator c) n s = comparison rules left n s
operand_at rules left inner whole (unary u) n s = comparison rules left n s
operand_at rules left inner whole (binary b) n s = comparison rules left n s
operand_at rules left inner whole (statistic x) n s = comparison rules left n s
operand_at rules left inner whole (connective x) n s = comparison rules left n s
operand_at rules left inner whole (numeral sign k) n s = comparison rules left n s
operand_at rules left inner whole (variable name) n s = comparison rules left n s
operand_at rules left inner whole stray n s = comparison rules left n s
operand_at rules left inner whole stop n s = comparison rules left n s

-- how loosely a connective's sign binds
abbrev pub sign_level : ConnectiveSign → ℕ
sign_level connectives.And = 1
sign_level connectives.Or = 2
sign_level connectives.Implies = 3
sign_level connectives.Iff = 4
sign_level connectives.Until = 5

abbrev pub at_level : ℕ → ConnectiveSign → Option ConnectiveSign
at_level level x = cond (sign_level x == level) (Some x) None

-- the sign at hand, if it is a connective's of this level
abbrev pub sign_at : ℕ → Tok → Option ConnectiveSign
sign_at level (connective x) = at_level level x
sign_at level (mark q) = None
sign_at level change = None
sign_at level (comparator c) = None
sign_at level (unary u) = None
sign_at level (binary b) = None
sign_at level (statistic s) = None
sign_at level (prefix x) = None
sign_at level (numeral s n) = None
sign_at level (variable name) = None
sign_at level stray = None
sign_at level stop = None

-- a connective behind its sign
abbrev pub link : Rules → ConnectiveSign → Reader Link
link rules connectives.And n s = got tree.and n s
link rules connectives.Or n s = got tree.or n s
link rules connectives.Implies n s = got tree.implies n s
link rules connectives.Iff n s = got tree.iff n s
link rules connectives.Until n s = and_then (window rules n s) (λ w n s. got (tree.until w.0 w.1) n s)

-- one more operand to the right of p, read by `inner`
abbrev pub linked : Rules → (Reader PropertyTree) → PropertyTree → ConnectiveSign → Reader PropertyTree
linked rules inner p x n s =
    and_then (bring rules n s) (λ _ n s.
    and_then (link rules x n (rest s)) (λ l n s.
    and_then (inner n s) (λ q n s. got (tree.joined l p q) n s)))

-- the connectives of this level that follow p, grouped to the left, at most so many
unfoldable pub links : ℕ → Rules → ℕ → (Reader PropertyTree) → PropertyTree → Reader PropertyTree
links zero rules level inner p n s = got p n s
links (suc most) rules level inner p n s =
    elim (sign_at level (first s).tok) [
      | None ↦ got p n s
      | Some x ↦ and_then (linked rules inner p x n s) (links most rules level inner)
    ]

-- what is bound as tightly as this level: each connective takes a token, so there are no more than tokens
unfoldable pub tier : Rules → (Reader PropertyTree) → ℕ → Reader PropertyTree
tier rules operand zero n s = operand n s
tier rules operand (suc level) n s = and_then (tier rules operand level n s) (λ p n s. links (length s) rules (suc level) (tier rules operand level) p n s)

-- what a prefix can stand before, where so many nestings are left
unfoldable pub operand : Rules → ℕ → Reader PropertyTree
operand rules zero n s = operand_at rules zero (λ n s. refuse 2 s) (λ n s. refuse 2 s) (first s).tok n s
operand rules (suc left) n s = operand_at rules (suc left) (operand rules left) (tier rules (operand rules left) loosest) (first s).tok n s

abbrev pub formula : Rules → ℕ → Reader PropertyTree
formula rules left = tier rules (operand rules left) loosest

-- a whole text: one formula, and then its end
abbrev pub reading : Rules → List Spot → Outcome PropertyTree
reading rules s = and_then (formula rules rules.nesting 0 s) (λ p n s. cond (is_stop (first s).tok) (got p n s) (refuse 2 s))
