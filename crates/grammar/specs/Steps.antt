-- The tokens of a parse tree from the left, each with what it brings and which rule it breaks. Assumes nothing.
use Rattle.std.specs.Prelude.{ℕ, suc, Bool, true, false, cond, List, [], ◌∷◌, ◌++◌, length, Some, None, Option}
use Rattle.parts.specs.declared.kinds.Quantity.{Quantity}
use Rattle.parts.specs.declared.kinds.Quantity.TheVariants.{Value, Change}
use Rattle.tokens.specs.Tokens.{Tok, mark, change, comparator, prefix, connective}
use Rattle.tokens.specs.Tokens as token
use Rattle.tokens.specs.declared.words.ConnectiveSign.TheVariants as connectives
use Rattle.tokens.specs.declared.words.PrefixSign.TheVariants as prefixes
use Rattle.tokens.specs.declared.words.Punctuation.TheVariants.{Open, Close, OpenWindow, CloseWindow, Comma}
use Rattle.tokens.specs.declared.words.Sign.TheVariants.{Unsigned}
use Rattle.grammar.specs.Trees.{MeasureTree, numeral, variable, unary, binary, over, Lead, negation, next, skipping, eventually, always, Link, and, or, implies, iff, until, PropertyTree, compare, prefixed, joined, bracketed}

-- what a text must keep beside the grammar
pub record Rules : Type 0 where
  -- the magnitude of a numeral, and the index of X
  pub numeral : ℕ → Bool
  pub index : ℕ → Bool
  -- the two ends of a window
  pub order : ℕ → ℕ → Bool
  -- a variable has a column
  pub column : List ℕ → Bool
  -- a measure's bound, its arguments being tested before
  pub bound : MeasureTree → Bool
  -- how many parts there may be, and how deeply they may be nested
  pub parts : ℕ
  pub nesting : ℕ

-- A token of a tree: whether it brings a part, the nesting that it brings (0 if none), the number of the rule that it breaks of those that look at this token alone or at the measure that it ends, and how many tokens before it the refusal is placed.
pub record Step : Type 0 where
  pub tok : Tok
  pub brings : Bool
  pub depth : ℕ
  pub breaks : Option ℕ
  pub back : ℕ

abbrev pub plain : Tok → Step
plain t = record { tok = t; brings = false; depth = 0; breaks = None; back = 0 }

-- a token that brings a part
abbrev pub bringing : Tok → Step
bringing t = record { tok = t; brings = true; depth = 0; breaks = None; back = 0 }

-- a token that brings nesting, up to this depth
abbrev pub nesting : ℕ → Tok → Step
nesting d t = record { tok = t; brings = false; depth = d; breaks = None; back = 0 }

abbrev pub unless : Bool → ℕ → Option ℕ
unless kept number = cond kept None (Some number)

-- a numeral of a window or an index, tested by rules of its own
abbrev pub limited : Tok → Option ℕ → Step
limited t breaks = record { tok = t; brings = false; depth = 0; breaks = breaks; back = 0 }

-- a numeral or a variable as a measure
abbrev pub leaf : Tok → Option ℕ → Step
leaf t breaks = record { tok = t; brings = true; depth = 0; breaks = breaks; back = 0 }

-- the bracket that ends a measure, so many tokens behind the measure's name
abbrev pub ending : Rules → MeasureTree → ℕ → Step
ending rules m back = record { tok = mark Close; brings = false; depth = 0; breaks = unless (rules.bound m) 7; back = back }

abbrev pub or_else : Option ℕ → Option ℕ → Option ℕ
or_else (Some n) other = Some n
or_else None other = other

abbrev pub window_steps : Rules → ℕ → ℕ → List Step
window_steps rules a b =
    plain (mark OpenWindow)
    ∷ limited (token.numeral Unsigned a) (unless (rules.numeral a) 3)
    ∷ plain (mark Comma)
    ∷ limited (token.numeral Unsigned b) (or_else (unless (rules.numeral b) 3) (unless (rules.order a b) 4))
    ∷ plain (mark CloseWindow)
    ∷ []

-- the steps of a measure with arguments: its name, its bracket at this depth, the arguments, and the closing bracket
abbrev pub call_steps : Rules → ℕ → Tok → MeasureTree → List Step → List Step
call_steps rules d name m arguments = bringing name ∷ nesting d (mark Open) ∷ (arguments ++ (ending rules m (suc (suc (length arguments))) ∷ []))

-- inside so many nestings
abbrev pub measure_steps : Rules → ℕ → MeasureTree → List Step
measure_steps rules d (numeral s n) = leaf (token.numeral s n) (unless (rules.numeral n) 3) ∷ []
measure_steps rules d (variable name) = leaf (token.variable name) (unless (rules.column name) 5) ∷ []
measure_steps rules d (unary u m) = call_steps rules (suc d) (token.unary u) (unary u m) (measure_steps rules (suc d) m)
measure_steps rules d (binary b m n) = call_steps rules (suc d) (token.binary b) (binary b m n) (measure_steps rules (suc d) m ++ (plain (mark Comma) ∷ measure_steps rules (suc d) n))
measure_steps rules d (over s a b m) = call_steps rules (suc d) (token.statistic s) (over s a b m) (window_steps rules a b ++ measure_steps rules (suc d) m)

-- the first token of a prefix brings a part and nesting
abbrev pub leading : ℕ → Tok → Step
leading d t = record { tok = t; brings = true; depth = d; breaks = None; back = 0 }

abbrev pub lead_steps : Rules → ℕ → Lead → List Step
lead_steps rules d negation = leading d (prefix prefixes.Not) ∷ []
lead_steps rules d next = leading d (prefix prefixes.Next) ∷ []
lead_steps rules d (skipping s k) = leading d (prefix prefixes.Next) ∷ plain (mark OpenWindow) ∷ limited (token.numeral s k) (unless (rules.index k) 3) ∷ plain (mark CloseWindow) ∷ []
lead_steps rules d (eventually a b) = leading d (prefix prefixes.Eventually) ∷ window_steps rules a b
lead_steps rules d (always a b) = leading d (prefix prefixes.Always) ∷ window_steps rules a b

abbrev pub link_steps : Rules → Link → List Step
link_steps rules and = bringing (connective connectives.And) ∷ []
link_steps rules or = bringing (connective connectives.Or) ∷ []
link_steps rules implies = bringing (connective connectives.Implies) ∷ []
link_steps rules iff = bringing (connective connectives.Iff) ∷ []
link_steps rules (until a b) = bringing (connective connectives.Until) ∷ window_steps rules a b

-- the left side of a comparison, in d( ) or not
abbrev pub left_steps : Rules → ℕ → Quantity → MeasureTree → List Step
left_steps rules d Value m = measure_steps rules d m
left_steps rules d Change m = plain change ∷ nesting (suc d) (mark Open) ∷ (measure_steps rules (suc d) m ++ (plain (mark Close) ∷ []))

abbrev pub property_steps : Rules → ℕ → PropertyTree → List Step
property_steps rules d (compare q c m n) = left_steps rules d q m ++ (bringing (comparator c) ∷ measure_steps rules d n)
property_steps rules d (prefixed l p) = lead_steps rules (suc d) l ++ property_steps rules (suc d) p
property_steps rules d (joined l p q) = property_steps rules d p ++ (link_steps rules l ++ property_steps rules d q)
property_steps rules d (bracketed p) = nesting (suc d) (mark Open) ∷ (property_steps rules (suc d) p ++ (plain (mark Close) ∷ []))
