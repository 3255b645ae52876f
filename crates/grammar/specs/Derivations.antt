-- The published grammar of the logic, narrowed to what criteria have: one rule for each alternative, between the tokens alone. No precedence is built in. Assumes nothing.
use Rattle.std.specs.Prelude.{ℕ, List, [], ◌∷◌, ◌++◌}
use Rattle.parts.specs.declared.kinds.Binary.{Binary}
use Rattle.parts.specs.declared.kinds.Comparator.{Comparator}
use Rattle.parts.specs.declared.kinds.Statistic.{Statistic}
use Rattle.parts.specs.declared.kinds.Unary.{Unary}
use Rattle.tokens.specs.Tokens.{Tok, mark, change, comparator, unary, binary, statistic, prefix, connective, numeral, variable}
use Rattle.tokens.specs.declared.words.ConnectiveSign.TheVariants as connectives
use Rattle.tokens.specs.declared.words.PrefixSign.TheVariants as prefixes
use Rattle.tokens.specs.declared.words.Punctuation.TheVariants.{Open, Close, OpenWindow, CloseWindow, Comma}
use Rattle.tokens.specs.declared.words.Sign.{Sign}
use Rattle.tokens.specs.declared.words.Sign.TheVariants.{Unsigned, Plus}

-- [ unsigned-number , unsigned-number ]
abbrev pub window_tokens : ℕ → ℕ → List Tok
window_tokens a b = mark OpenWindow ∷ numeral Unsigned a ∷ mark Comma ∷ numeral Unsigned b ∷ mark CloseWindow ∷ []

-- ( tokens )
abbrev pub bracket_tokens : List Tok → List Tok
bracket_tokens ts = mark Open ∷ (ts ++ (mark Close ∷ []))

-- numeric-measure: what stands inside a window measure
pub data NumericMeasure : List Tok → Type 0 where
  real_number : {s : Sign} {n : ℕ} → NumericMeasure (numeral s n ∷ [])
  state_variable : {name : List ℕ} → NumericMeasure (variable name ∷ [])
  unary_measure : {u : Unary} {ms : List Tok} → NumericMeasure ms → NumericMeasure (unary u ∷ bracket_tokens ms)
  binary_measure : {b : Binary} {ms ns : List Tok} → NumericMeasure ms → NumericMeasure ns → NumericMeasure (binary b ∷ bracket_tokens (ms ++ (mark Comma ∷ ns)))

-- temporal-numeric-measure
pub data TemporalMeasure : List Tok → Type 0 where
  real_number : {s : Sign} {n : ℕ} → TemporalMeasure (numeral s n ∷ [])
  state_variable : {name : List ℕ} → TemporalMeasure (variable name ∷ [])
  statistical_measure : {s : Statistic} {a b : ℕ} {ms : List Tok} → NumericMeasure ms → TemporalMeasure (statistic s ∷ bracket_tokens (window_tokens a b ++ ms))
  unary_measure : {u : Unary} {ms : List Tok} → TemporalMeasure ms → TemporalMeasure (unary u ∷ bracket_tokens ms)
  binary_measure : {b : Binary} {ms ns : List Tok} → TemporalMeasure ms → TemporalMeasure ns → TemporalMeasure (binary b ∷ bracket_tokens (ms ++ (mark Comma ∷ ns)))

-- logic-property
pub data LogicProperty : List Tok → Type 0 where
  comparison : {ms ns : List Tok} (c : Comparator) → TemporalMeasure ms → TemporalMeasure ns → LogicProperty (ms ++ (comparator c ∷ ns))
  change_comparison : {ms ns : List Tok} (c : Comparator) → TemporalMeasure ms → TemporalMeasure ns → LogicProperty ((change ∷ bracket_tokens ms) ++ (comparator c ∷ ns))
  negation : {ps : List Tok} → LogicProperty ps → LogicProperty (prefix prefixes.Not ∷ ps)
  conjunction : {ps qs : List Tok} → LogicProperty ps → LogicProperty qs → LogicProperty (ps ++ (connective connectives.And ∷ qs))
  disjunction : {ps qs : List Tok} → LogicProperty ps → LogicProperty qs → LogicProperty (ps ++ (connective connectives.Or ∷ qs))
  implication : {ps qs : List Tok} → LogicProperty ps → LogicProperty qs → LogicProperty (ps ++ (connective connectives.Implies ∷ qs))
  equivalence : {ps qs : List Tok} → LogicProperty ps → LogicProperty qs → LogicProperty (ps ++ (connective connectives.Iff ∷ qs))
  until : {ps qs : List Tok} (a b : ℕ) → LogicProperty ps → LogicProperty qs → LogicProperty (ps ++ (connective connectives.Until ∷ (window_tokens a b ++ qs)))
  eventually : {a b : ℕ} {ps : List Tok} → LogicProperty ps → LogicProperty (prefix prefixes.Eventually ∷ (window_tokens a b ++ ps))
  always : {a b : ℕ} {ps : List Tok} → LogicProperty ps → LogicProperty (prefix prefixes.Always ∷ (window_tokens a b ++ ps))
  next : {ps : List Tok} → LogicProperty ps → LogicProperty (prefix prefixes.Next ∷ ps)
  -- the index of X is a natural number, with an optional plus
  next_by : {k : ℕ} {ps : List Tok} → LogicProperty ps → LogicProperty (prefix prefixes.Next ∷ mark OpenWindow ∷ numeral Unsigned k ∷ mark CloseWindow ∷ ps)
  next_by_plus : {k : ℕ} {ps : List Tok} → LogicProperty ps → LogicProperty (prefix prefixes.Next ∷ mark OpenWindow ∷ numeral Plus k ∷ mark CloseWindow ∷ ps)
  bracket : {ps : List Tok} → LogicProperty ps → LogicProperty (bracket_tokens ps)
