-- What each call of the reader does. Assumes nothing.
use Rattle.std.specs.Prelude.{◌≡◌, ℕ, zero, suc, ◌+◌, ◌-◌, Bool, true, false, List, [], ◌∷◌, ◌++◌, length, is_some, None, Option, nat_le}
use Rattle.records.specs.Told.{names}
use Rattle.parts.specs.Bounds.{bound_kept, bound_of, if_kept}
use Rattle.parts.specs.Formulas as formula
use Rattle.parts.specs.Formulas.{Measure, Property}
use Rattle.parts.specs.Limits.{most_numeral}
use Rattle.parts.specs.Order.{measure_parts, measure_size, property_parts, property_size}
use Rattle.parts.specs.declared.kinds.Connective.{Connective}
use Rattle.parts.specs.declared.kinds.Part.{Part}
use Rattle.parts.specs.declared.kinds.Part.TheVariants as part
use Rattle.parts.specs.declared.kinds.Prefix.{Prefix}
use Rattle.parts.specs.declared.kinds.Quantity.{Quantity}
use Rattle.parts.specs.declared.kinds.Window.{Window}
use Rattle.tokens.specs.declared.words.ConnectiveSign.{ConnectiveSign}
use Rattle.tokens.specs.declared.words.PrefixSign.{PrefixSign}
use Rattle.tokens.specs.declared.words.Punctuation.{Punctuation}
use Rattle.tokens.specs.declared.words.Sign.{Sign}
use Rattle.grammar.specs.Meanings.{Columns, measure_of, prefix_of, connective_of, property_of}
use Rattle.grammar.specs.Reading as reading
use Rattle.grammar.specs.Rules.{rules_for}
use Rattle.grammar.specs.Steps.{Rules}
use Rattle.grammar.specs.Trees as tree
use Rattle.grammar.specs.Trees.{Lead, Link, MeasureTree, PropertyTree}
use Rattle.criteria.specs.Criteria.{columns_in}
use Rattle.criteria.specs.States.{View, Way, grown}
use Rattle.criteria.specs.declared.reader.operands.Call.{Call}
use Rattle.criteria.specs.declared.reader.operands.Context.{Context}
use Rattle.criteria.specs.declared.reader.operands.Context.TheVariants as context
use Rattle.criteria.specs.declared.reader.operands.Function.{Function}
use Rattle.criteria.specs.declared.reader.operands.Function.TheVariants as function
use Rattle.criteria.specs.declared.reader.operands.Operand.{Operand}
use Rattle.criteria.specs.declared.scope.Scope.{Scope}

abbrev pub columns_of : Scope → Columns
columns_of scope = columns_in (names scope.header)

abbrev pub rules_of : Scope → Rules
rules_of scope = rules_for (columns_of scope) scope.magnitude

-- the rules of windows and of the number of parts, the same for all columns and magnitudes
abbrev pub common_rules : Rules
common_rules = rules_for (λ name. None) 0

-- a call that writes no part
abbrev pub silent : {A B : Type 0} → reading.Reader A → (A → B) → Way A B
silent read value = record { read = read; value = λ at a. value a; parts = λ at a. [] }

abbrev pub punctuation_way : Punctuation → Way Unit Unit
punctuation_way p = silent (reading.punctuation p) (λ a. a)

abbrev pub opening_way : ℕ → Way Unit Unit
opening_way left = silent (reading.opening left) (λ a. a)

abbrev pub bring_way : Way Unit Unit
bring_way = silent (reading.bring common_rules) (λ a. a)

-- a numeral of a window, no less than the one before it, or than 0
abbrev pub moment_way : ℕ → Way ℕ ℕ
moment_way a = silent (λ n s. reading.last_moment common_rules a (reading.window_numeral (reading.signed_numeral (reading.first s).tok)) n s) (λ b. b)

abbrev pub window_of : (ℕ × ℕ) → Window
window_of w = record { first = w.0; last = w.1 }

abbrev pub window_behind_way : ℕ → Way (ℕ × ℕ) Window
window_behind_way a = silent (reading.window_behind common_rules a) window_of

abbrev pub window_way : Way (ℕ × ℕ) Window
window_way = silent (reading.window common_rules) window_of

-- a measure that was read: where its part stands, and its bound
abbrev pub operand_at : ℕ → ℕ → Measure → Operand
operand_at largest at m = record { at = at + measure_size m - 1; bound = bound_of largest m }

-- a call that reads a measure: it writes the measure's parts
abbrev pub measuring : Columns → ℕ → reading.Reader MeasureTree → Way MeasureTree Operand
measuring columns largest read = record {
  read = read;
  value = λ at m. operand_at largest at (measure_of columns m);
  parts = λ at m. measure_parts at (measure_of columns m);
}

-- a measure stands inside a window measure, where no other stands
abbrev pub is_inside : Context → Bool
is_inside context.Formula = false
is_inside context.Window = true

abbrev pub numeral_way : Scope → Sign → ℕ → Way MeasureTree Operand
numeral_way scope sign n = measuring (columns_of scope) scope.magnitude (reading.leaf (rules_of scope) (nat_le n most_numeral) 3 (tree.numeral sign n))

abbrev pub variable_way : Scope → List ℕ → Way MeasureTree Operand
variable_way scope name = measuring (columns_of scope) scope.magnitude (reading.leaf (rules_of scope) (is_some (columns_of scope name)) 5 (tree.variable name))

-- an argument, where so many nestings are left; where none is, its opening bracket is refused before
unfoldable pub argument : Rules → ℕ → Bool → reading.Reader MeasureTree
argument rules zero inside n s = reading.refuse 2 s
argument rules (suc left) inside n s = reading.measure rules left inside n s

-- the arguments of a function
abbrev pub arguments_of : Rules → Function → ℕ → Bool → reading.Reader MeasureTree
arguments_of rules (function.Unary u) left inside = reading.unary_arguments (argument rules left inside) (tree.unary u)
arguments_of rules (function.Binary b) left inside = reading.binary_arguments (argument rules left inside) (tree.binary b)
arguments_of rules (function.Statistic s) left inside = reading.window_arguments rules (argument rules left true) (tree.over s)

-- the parts of a measure's arguments, and the measure's own part behind them
abbrev pub argument_parts : ℕ → Measure → List Part
argument_parts at (formula.numeral n) = []
argument_parts at (formula.variable v) = []
argument_parts at (formula.unary u m) = measure_parts at m
argument_parts at (formula.binary b m n) = measure_parts at m ++ measure_parts (at + measure_size m) n
argument_parts at (formula.over s w m) = measure_parts at m

abbrev pub own_part : ℕ → Measure → Part
own_part at (formula.numeral n) = part.Numeral n
own_part at (formula.variable v) = part.Variable v
own_part at (formula.unary u m) = part.Unary u
own_part at (formula.binary b m n) = part.Binary b (at + measure_size m - 1)
own_part at (formula.over s w m) = part.Over s w

-- a measure's bound, where it is kept
abbrev pub kept_bound : Scope → MeasureTree → Option ℕ
kept_bound scope m = if_kept (bound_kept scope.magnitude (measure_of (columns_of scope) m)) (bound_of scope.magnitude (measure_of (columns_of scope) m))

-- the part to be written behind the arguments, and that bound
abbrev pub called : Scope → ℕ → MeasureTree → Call
called scope at m = record { part = own_part at (measure_of (columns_of scope) m); bound = kept_bound scope m }

-- so many nestings are left inside the brackets
abbrev pub arguments_way : Scope → Function → ℕ → Bool → Way MeasureTree Call
arguments_way scope f left inside = record {
  read = arguments_of (rules_of scope) f (suc left) inside;
  value = called scope;
  parts = λ at m. argument_parts at (measure_of (columns_of scope) m);
}

-- the closing bracket of a measure whose name stands at a place
abbrev pub ending_way : Scope → ℕ → MeasureTree → Way MeasureTree ℕ
ending_way scope place m = silent (reading.ending (rules_of scope) place m) (λ m. bound_of scope.magnitude (measure_of (columns_of scope) m))

abbrev pub call_way : Scope → Function → ℕ → Bool → Way MeasureTree Operand
call_way scope f left inside = measuring (columns_of scope) scope.magnitude (reading.call (rules_of scope) left (arguments_of (rules_of scope) f left inside))

abbrev pub measure_way : Scope → ℕ → Bool → Way MeasureTree Operand
measure_way scope left inside = measuring (columns_of scope) scope.magnitude (reading.measure (rules_of scope) left inside)

-- a call that reads a formula: it writes the formula's parts, and answers where the last one stands
abbrev pub proposing : Columns → reading.Reader PropertyTree → Way PropertyTree ℕ
proposing columns read = record {
  read = read;
  value = λ at p. at + property_size (property_of columns p) - 1;
  parts = λ at p. property_parts at (property_of columns p);
}

-- what is written behind a left operand, whose part stands at an index
abbrev pub behind_left : ℕ → ℕ → Property → List Part
behind_left left_at at (formula.compare c q m n) = measure_parts at n ++ (part.Compare c q left_at ∷ [])
behind_left left_at at (formula.prefixed p f) = []
behind_left left_at at (formula.joined c f g) = property_parts at g ++ (part.Connective c left_at ∷ [])

abbrev pub right_size : Property → ℕ
right_size (formula.compare c q m n) = measure_size n
right_size (formula.prefixed p f) = 0
right_size (formula.joined c f g) = property_size g

-- a call that reads on behind a left operand
abbrev pub rightward : Columns → ℕ → reading.Reader PropertyTree → Way PropertyTree ℕ
rightward columns left_at read = record {
  read = read;
  value = λ at p. at + right_size (property_of columns p);
  parts = λ at p. behind_left left_at at (property_of columns p);
}

-- a comparison from its comparator on
abbrev pub compared_way : Scope → ℕ → Quantity → MeasureTree → ℕ → Way PropertyTree ℕ
compared_way scope left q m left_at = rightward (columns_of scope) left_at (reading.compared (rules_of scope) left q m)

abbrev pub comparison_way : Scope → ℕ → Way PropertyTree ℕ
comparison_way scope left = proposing (columns_of scope) (reading.comparison (rules_of scope) left)

abbrev pub change_comparison_way : Scope → ℕ → Way PropertyTree ℕ
change_comparison_way scope left = proposing (columns_of scope) (reading.change_comparison (rules_of scope) left)

abbrev pub index_way : Way (Sign × ℕ) ℕ
index_way = silent (λ n s. reading.index_by common_rules (reading.index_numeral (reading.signed_numeral (reading.first s).tok)) n s) (λ k. k.1)

abbrev pub next_lead_way : Way Lead Prefix
next_lead_way = silent (reading.next_lead common_rules) prefix_of

abbrev pub lead_way : PrefixSign → Way Lead Prefix
lead_way x = silent (reading.lead common_rules x) prefix_of

abbrev pub prefix_sign_way : ℕ → Way Unit Unit
prefix_sign_way left = silent (reading.prefix_sign common_rules left) (λ a. a)

-- what a prefix can stand before and a whole formula inside one more nesting; where none is left, it is refused before
unfoldable pub inner_operand : Rules → ℕ → reading.Reader PropertyTree
inner_operand rules zero n s = reading.refuse 2 s
inner_operand rules (suc left) n s = reading.operand rules left n s

unfoldable pub inner_formula : Rules → ℕ → reading.Reader PropertyTree
inner_formula rules zero n s = reading.refuse 2 s
inner_formula rules (suc left) n s = reading.formula rules left n s

abbrev pub prefixed_way : Scope → ℕ → PrefixSign → Way PropertyTree ℕ
prefixed_way scope left x = proposing (columns_of scope) (reading.prefixed_by (rules_of scope) left x (inner_operand (rules_of scope) left))

abbrev pub bracketed_way : Scope → ℕ → Way PropertyTree ℕ
bracketed_way scope left = proposing (columns_of scope) (reading.bracketed_by left (inner_formula (rules_of scope) left))

abbrev pub operand_way : Scope → ℕ → Way PropertyTree ℕ
operand_way scope left = proposing (columns_of scope) (reading.operand (rules_of scope) left)

abbrev pub link_way : ConnectiveSign → Way Link Connective
link_way x = silent (reading.link common_rules x) connective_of

-- one more operand to the right of p
abbrev pub linked_way : Scope → ℕ → ℕ → PropertyTree → ConnectiveSign → ℕ → Way PropertyTree ℕ
linked_way scope left level p x left_at = rightward (columns_of scope) left_at (reading.linked (rules_of scope) (reading.tier (rules_of scope) (reading.operand (rules_of scope) left) level) p x)

abbrev pub tier_way : Scope → ℕ → ℕ → Way PropertyTree ℕ
tier_way scope left level = proposing (columns_of scope) (reading.tier (rules_of scope) (reading.operand (rules_of scope) left) level)

-- the connectives of this level that follow p
abbrev pub links_way : Scope → ℕ → ℕ → PropertyTree → Way PropertyTree ℕ
links_way scope left level p = proposing (columns_of scope) (λ n s. reading.links (length s) (rules_of scope) level (reading.tier (rules_of scope) (reading.operand (rules_of scope) left) (level - 1)) p n s)

-- the parts of p are written behind those of v, and its last one stands at an index
pub record Ends (columns : Columns) (v : View) (p : PropertyTree) (w : View) (at : ℕ) : Type 0 where
  pub state : w ≡ grown v (property_parts (length v.parts) (property_of columns p)) v.brought v.spots
  pub place : at ≡ length v.parts + property_size (property_of columns p) - 1
