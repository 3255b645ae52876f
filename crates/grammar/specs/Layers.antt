-- The grammar in layers, between tokens and parse trees: prefixes bind tightest, then ∧, ∨, ⇒, ⇔ and U, each looser than the one before and each grouping to the left. Assumes nothing.
use Rattle.std.specs.Prelude.{◌≡◌, ℕ, suc, Bool, true, false, List, [], ◌∷◌, ◌++◌}
use Rattle.parts.specs.declared.kinds.Binary.{Binary}
use Rattle.parts.specs.declared.kinds.Comparator.{Comparator}
use Rattle.parts.specs.declared.kinds.Quantity.{Quantity}
use Rattle.parts.specs.declared.kinds.Quantity.TheVariants.{Value, Change}
use Rattle.parts.specs.declared.kinds.Statistic.{Statistic}
use Rattle.parts.specs.declared.kinds.Unary.{Unary}
use Rattle.tokens.specs.Tokens.{Tok, mark, change, comparator, prefix, connective}
use Rattle.tokens.specs.Tokens as token
use Rattle.tokens.specs.declared.words.ConnectiveSign.TheVariants as connectives
use Rattle.tokens.specs.declared.words.PrefixSign.TheVariants as prefixes
use Rattle.tokens.specs.declared.words.Punctuation.TheVariants.{OpenWindow, CloseWindow, Comma}
use Rattle.tokens.specs.declared.words.Sign.{Sign}
use Rattle.tokens.specs.declared.words.Sign.TheVariants.{Unsigned, Plus, Minus}
use Rattle.grammar.specs.Derivations.{window_tokens, bracket_tokens}
use Rattle.grammar.specs.Trees.{MeasureTree, numeral, variable, unary, binary, over, Lead, negation, next, skipping, eventually, always, Link, and, or, implies, iff, until, PropertyTree, compare, prefixed, joined, bracketed}

-- Inside a window measure, where `inside` is true, no other stands.
pub data MeasureText : Bool → List Tok → MeasureTree → Type 0 where
  a_numeral : {inside : Bool} {s : Sign} {n : ℕ} → MeasureText inside (token.numeral s n ∷ []) (numeral s n)
  a_variable : {inside : Bool} {name : List ℕ} → MeasureText inside (token.variable name ∷ []) (variable name)
  a_unary : {inside : Bool} {u : Unary} {ms : List Tok} {m : MeasureTree} → MeasureText inside ms m → MeasureText inside (token.unary u ∷ bracket_tokens ms) (unary u m)
  a_binary : {inside : Bool} {b : Binary} {ms ns : List Tok} {m n : MeasureTree} → MeasureText inside ms m → MeasureText inside ns n → MeasureText inside (token.binary b ∷ bracket_tokens (ms ++ (mark Comma ∷ ns))) (binary b m n)
  a_statistic : {s : Statistic} {a b : ℕ} {ms : List Tok} {m : MeasureTree} → MeasureText true ms m → MeasureText false (token.statistic s ∷ bracket_tokens (window_tokens a b ++ ms)) (over s a b m)

abbrev pub lead_tokens : Lead → List Tok
lead_tokens negation = prefix prefixes.Not ∷ []
lead_tokens next = prefix prefixes.Next ∷ []
lead_tokens (skipping s k) = prefix prefixes.Next ∷ mark OpenWindow ∷ token.numeral s k ∷ mark CloseWindow ∷ []
lead_tokens (eventually a b) = prefix prefixes.Eventually ∷ window_tokens a b
lead_tokens (always a b) = prefix prefixes.Always ∷ window_tokens a b

-- the index of X has no minus
abbrev pub LeadText : Lead → Type 0
LeadText negation = Unit {0}
LeadText next = Unit {0}
LeadText (skipping Unsigned k) = Unit {0}
LeadText (skipping Plus k) = Unit {0}
LeadText (skipping Minus k) = ⊥
LeadText (eventually a b) = Unit {0}
LeadText (always a b) = Unit {0}

abbrev pub link_tokens : Link → List Tok
link_tokens and = connective connectives.And ∷ []
link_tokens or = connective connectives.Or ∷ []
link_tokens implies = connective connectives.Implies ∷ []
link_tokens iff = connective connectives.Iff ∷ []
link_tokens (until a b) = connective connectives.Until ∷ window_tokens a b

-- how loosely a connective binds
abbrev pub link_level : Link → ℕ
link_level and = 1
link_level or = 2
link_level implies = 3
link_level iff = 4
link_level (until a b) = 5

-- the level of a whole formula
abbrev pub loosest : ℕ
loosest = 5

abbrev pub change_tokens : Quantity → List Tok → List Tok
change_tokens Value ms = ms
change_tokens Change ms = change ∷ bracket_tokens ms

-- Level 0 has what a prefix can stand before; each further level has the connective of that level and what binds tighter.
pub data PropertyText : ℕ → List Tok → PropertyTree → Type 0 where
  a_comparison : {q : Quantity} {c : Comparator} {ms ns : List Tok} {m n : MeasureTree} → MeasureText false ms m → MeasureText false ns n → PropertyText 0 (change_tokens q ms ++ (comparator c ∷ ns)) (compare q c m n)
  a_prefix : {l : Lead} {ps : List Tok} {p : PropertyTree} → LeadText l → PropertyText 0 ps p → PropertyText 0 (lead_tokens l ++ ps) (prefixed l p)
  a_bracket : {ps : List Tok} {p : PropertyTree} → PropertyText loosest ps p → PropertyText 0 (bracket_tokens ps) (bracketed p)
  tighter : {level : ℕ} {ps : List Tok} {p : PropertyTree} → PropertyText level ps p → PropertyText (suc level) ps p
  a_link : {level : ℕ} {l : Link} {ps qs : List Tok} {p q : PropertyTree} → link_level l ≡ suc level → PropertyText (suc level) ps p → PropertyText level qs q → PropertyText (suc level) (ps ++ (link_tokens l ++ qs)) (joined l p q)
