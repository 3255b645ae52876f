-- The layered grammar has the texts of the published one: what it relates to a tree is derived, and every derived text has a tree, its operands grouped anew. Assumes nothing.
use Rattle.std.proofs.Common.{ℕ, zero, suc, ◌≤◌, true, false, List, ◌++◌, ⊎_elim, append_assoc, arith}
use Rattle.std.proofs.lemmas.Bool.{cases_eq}
use Rattle.parts.specs.declared.kinds.Quantity.TheVariants.{Value, Change}
use Rattle.tokens.specs.Tokens.{Tok}
use Rattle.tokens.specs.declared.words.Sign.TheVariants.{Unsigned, Plus, Minus}
use Rattle.grammar.specs.Derivations as published
use Rattle.grammar.specs.Derivations.{NumericMeasure, TemporalMeasure, LogicProperty}
use Rattle.grammar.specs.Layers.{MeasureText, a_numeral, a_variable, a_unary, a_binary, a_statistic, lead_tokens, LeadText, link_tokens, link_level, loosest, PropertyText, a_comparison, a_prefix, a_bracket, tighter, a_link}
use Rattle.grammar.specs.Trees.{MeasureTree, Lead, negation, next, skipping, eventually, always, Link, and, or, implies, iff, until, PropertyTree}

numeric : {ms : List Tok} {m : MeasureTree} → MeasureText true ms m → NumericMeasure ms
numeric a_numeral = NumericMeasure.real_number
numeric a_variable = NumericMeasure.state_variable
numeric (a_unary m) = NumericMeasure.unary_measure (numeric m)
numeric (a_binary m n) = NumericMeasure.binary_measure (numeric m) (numeric n)

temporal : {ms : List Tok} {m : MeasureTree} → MeasureText false ms m → TemporalMeasure ms
temporal a_numeral = TemporalMeasure.real_number
temporal a_variable = TemporalMeasure.state_variable
temporal (a_unary m) = TemporalMeasure.unary_measure (temporal m)
temporal (a_binary m n) = TemporalMeasure.binary_measure (temporal m) (temporal n)
temporal (a_statistic m) = TemporalMeasure.statistical_measure (numeric m)

led : (l : Lead) {ps : List Tok} → LeadText l → LogicProperty ps → LogicProperty (lead_tokens l ++ ps)
led negation t p = published.negation p
led next t p = published.next p
led (skipping Unsigned k) t p = published.next_by p
led (skipping Plus k) t p = published.next_by_plus p
led (skipping Minus k) t p = absurd t
led (eventually a b) t p = published.eventually p
led (always a b) t p = published.always p

linked : (l : Link) {ps qs : List Tok} → LogicProperty ps → LogicProperty qs → LogicProperty (ps ++ (link_tokens l ++ qs))
linked and p q = published.conjunction p q
linked or p q = published.disjunction p q
linked implies p q = published.implication p q
linked iff p q = published.equivalence p q
linked (until a b) p q = published.until a b p q

derived_at : {level : ℕ} {ts : List Tok} {p : PropertyTree} → PropertyText level ts p → LogicProperty ts
derived_at (a_comparison {q = Value} {c = c} m n) = published.comparison c (temporal m) (temporal n)
derived_at (a_comparison {q = Change} {c = c} m n) = published.change_comparison c (temporal m) (temporal n)
derived_at (a_prefix {l = l} t p) = led l t (derived_at p)
derived_at (a_bracket p) = published.bracket (derived_at p)
derived_at (tighter p) = derived_at p
derived_at (a_link {l = l} e p q) = linked l (derived_at p) (derived_at q)

pub derived : (ts : List Tok) (p : PropertyTree) → PropertyText loosest ts p → LogicProperty ts
derived ts p t = derived_at t

inside_tree : {ms : List Tok} → NumericMeasure ms → (m : MeasureTree) × MeasureText true ms m
inside_tree NumericMeasure.real_number = (_, a_numeral)
inside_tree NumericMeasure.state_variable = (_, a_variable)
inside_tree (NumericMeasure.unary_measure m) = (_, a_unary (inside_tree m).1)
inside_tree (NumericMeasure.binary_measure m n) = (_, a_binary (inside_tree m).1 (inside_tree n).1)

measure_tree : {ms : List Tok} → TemporalMeasure ms → (m : MeasureTree) × MeasureText false ms m
measure_tree TemporalMeasure.real_number = (_, a_numeral)
measure_tree TemporalMeasure.state_variable = (_, a_variable)
measure_tree (TemporalMeasure.statistical_measure m) = (_, a_statistic (inside_tree m).1)
measure_tree (TemporalMeasure.unary_measure m) = (_, a_unary (measure_tree m).1)
measure_tree (TemporalMeasure.binary_measure m n) = (_, a_binary (measure_tree m).1 (measure_tree n).1)

-- a text of a level, whatever its tree
abbrev Grouped : ℕ → List Tok → Type 0
Grouped level ts = (p : PropertyTree) × PropertyText level ts p

looser : (level : ℕ) {ts : List Tok} {p : PropertyTree} → PropertyText 0 ts p → PropertyText level ts p
looser zero t = t
looser (suc level) t = tighter (looser level t)

-- a prefix goes to the leftmost operand
prefix_left : (l : Lead) {level : ℕ} {ps : List Tok} {p : PropertyTree} → LeadText l → PropertyText level ps p → Grouped level (lead_tokens l ++ ps)
prefix_left l t (a_comparison m n) = (_, a_prefix t (a_comparison m n))
prefix_left l t (a_prefix s p) = (_, a_prefix t (a_prefix s p))
prefix_left l t (a_bracket p) = (_, a_prefix t (a_bracket p))
prefix_left l t (tighter p) = (_, tighter (prefix_left l t p).1)
prefix_left l t (a_link {l = k} {ps = ps} {qs = qs} e p q) = rw (← append_assoc (lead_tokens l) ps (link_tokens k ++ qs)) (_, a_link e (prefix_left l t p).1 q)

above_operands : (l : Link) → link_level l ≤ 0 → ⊥
above_operands l h = grind arith

-- one operand more at the right: at the level of its connective, or behind the last operand of a looser one
operand_right : (l : Link) {level : ℕ} {ps qs : List Tok} {p q : PropertyTree} → link_level l ≤ level → PropertyText level ps p → PropertyText 0 qs q → Grouped level (ps ++ (link_tokens l ++ qs))
operand_right l within (a_comparison m n) q = absurd (above_operands l within)
operand_right l within (a_prefix t p) q = absurd (above_operands l within)
operand_right l within (a_bracket p) q = absurd (above_operands l within)
operand_right l within (tighter {level = level} p) q =
    ⊎_elim
    (λ e. (_, a_link e (tighter p) (looser level q)))
    (λ other. (_, tighter (operand_right l (omega arith) p q).1))
    (cases_eq (link_level l) (suc level))
operand_right l {qs = qs} within (a_link {level = level} {l = k} {ps = ps} {qs = ks} e p k-text) q =
    ⊎_elim
    (λ same. (_, a_link same (a_link e p k-text) (looser level q)))
    (λ other. rw (append_assoc ps (link_tokens k ++ ks) (link_tokens l ++ qs), append_assoc (link_tokens k) ks (link_tokens l ++ qs)) (_, a_link e p (operand_right l (omega arith) k-text q).1))
    (cases_eq (link_level l) (suc level))

within_loosest : (l : Link) → link_level l ≤ loosest
within_loosest l = grind arith

-- two texts joined, by induction on the right one
join : (l : Link) {level : ℕ} {ps qs : List Tok} {p q : PropertyTree} → PropertyText loosest ps p → PropertyText level qs q → Grouped loosest (ps ++ (link_tokens l ++ qs))
join l p (a_comparison m n) = operand_right l (within_loosest l) p (a_comparison m n)
join l p (a_prefix t q) = operand_right l (within_loosest l) p (a_prefix t q)
join l p (a_bracket q) = operand_right l (within_loosest l) p (a_bracket q)
join l p (tighter q) = join l p q
join l {ps = ps} p (a_link {l = k} {ps = qs} {qs = ks} e q r) = grind (arith, append_assoc, join k (join l p q).1 r, join l p q)

grouped : {ts : List Tok} → LogicProperty ts → Grouped loosest ts
grouped (published.comparison c m n) = (_, looser loosest (a_comparison {q = Value} {c = c} (measure_tree m).1 (measure_tree n).1))
grouped (published.change_comparison c m n) = (_, looser loosest (a_comparison {q = Change} {c = c} (measure_tree m).1 (measure_tree n).1))
grouped (published.negation p) = prefix_left negation tt (grouped p).1
grouped (published.conjunction p q) = join and (grouped p).1 (grouped q).1
grouped (published.disjunction p q) = join or (grouped p).1 (grouped q).1
grouped (published.implication p q) = join implies (grouped p).1 (grouped q).1
grouped (published.equivalence p q) = join iff (grouped p).1 (grouped q).1
grouped (published.until a b p q) = join (until a b) (grouped p).1 (grouped q).1
grouped (published.eventually {a = a} {b = b} p) = prefix_left (eventually a b) tt (grouped p).1
grouped (published.always {a = a} {b = b} p) = prefix_left (always a b) tt (grouped p).1
grouped (published.next p) = prefix_left next tt (grouped p).1
grouped (published.next_by {k = k} p) = prefix_left (skipping Unsigned k) tt (grouped p).1
grouped (published.next_by_plus {k = k} p) = prefix_left (skipping Plus k) tt (grouped p).1
grouped (published.bracket p) = (_, looser loosest (a_bracket (grouped p).1))

pub layered : (ts : List Tok) → LogicProperty ts → (p : PropertyTree) × PropertyText loosest ts p
layered ts t = grouped t
