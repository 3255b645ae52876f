-- A formula can be written as deeply nested as a tree of it is, or less.
use Rattle.std.proofs.Common.{◌≡◌, ℕ, suc, pred, ◌+◌, ◌≤◌, max, true, leb, List, ◌∷◌, ◌++◌, ap, ◌∙◌, arith}
use Rattle.std.specs.List.{AllByRecursion}
use Rattle.std.proofs.lemmas.Bool.Decides.{nat_tests}
use Rattle.parts.specs.Formulas as formula
use Rattle.parts.specs.Formulas.{Property}
use Rattle.parts.specs.Nesting.{measure_nesting, left_nesting, connective_level, bracket_nesting, nesting_at}
use Rattle.parts.specs.declared.kinds.Connective.{Connective}
use Rattle.parts.specs.declared.kinds.Quantity.{Quantity}
use Rattle.parts.specs.declared.kinds.Quantity.TheVariants.{Value, Change}
use Rattle.tokens.specs.Tokens.{Tok}
use Rattle.grammar.specs.Layers.{PropertyText, a_comparison, a_prefix, a_bracket, tighter, a_link, link_level}
use Rattle.grammar.specs.Meanings.{Columns, measure_of, connective_of, property_of}
use Rattle.grammar.specs.Steps.{Rules, Step, measure_steps, window_steps, lead_steps, link_steps, left_steps, property_steps}
use Rattle.grammar.specs.Trees.{MeasureTree, numeral, variable, unary, binary, over, Lead, Link, PropertyTree, joined}
use Rattle.grammar.proofs.LawfulTrees.{Keeps, all_split}

-- a formula that may bind more loosely takes no deeper nesting, and brackets take one more
bracket_looser : (allowed looser level nesting : ℕ) → allowed ≤ looser → bracket_nesting looser level nesting ≤ bracket_nesting allowed level nesting
bracket_looser allowed looser level nesting h = grind (arith, nat_tests)

bracket_one : (allowed level nesting : ℕ) → bracket_nesting allowed level nesting ≤ suc nesting
bracket_one allowed level nesting = grind (arith, nat_tests)

pub nesting_looser : (allowed looser : ℕ) (f : Property) → allowed ≤ looser → nesting_at looser f ≤ nesting_at allowed f
nesting_looser allowed looser (formula.compare c d m n) h = omega arith
nesting_looser allowed looser (formula.prefixed x f) h = omega arith
nesting_looser allowed looser (formula.joined c f g) h = grind (arith, bracket_looser)

level_at_most : (c : Connective) → leb (connective_level c) 5 ≡ true
level_at_most c = grind arith

pub nesting_bracketed : (f : Property) → nesting_at 0 f ≤ suc (nesting_at 5 f)
nesting_bracketed (formula.compare c d m n) = omega arith
nesting_bracketed (formula.prefixed x f) = omega arith
nesting_bracketed (formula.joined c f g) = grind (arith, level_at_most, bracket_one)

same_level : (l : Link) → connective_level (connective_of l) ≡ link_level l
same_level l = grind arith

bracket_none : (allowed level nesting : ℕ) → level ≡ allowed → bracket_nesting allowed level nesting ≡ nesting
bracket_none allowed level nesting e = grind (arith, nat_tests)

module _ (rules : Rules) (columns : Columns) where
  abbrev Deep : List Step → Type 0
  Deep xs = AllByRecursion (Keeps rules) xs

  measure_nested : (m : MeasureTree) (d : ℕ) → d ≤ rules.nesting → Deep (measure_steps rules d m) → d + measure_nesting (measure_of columns m) ≤ rules.nesting
  measure_nested (numeral s n) d r h = omega arith
  measure_nested (variable name) d r h = omega arith
  measure_nested (unary u m) d r h = grind (arith, all_split, measure_nested m (suc d) h.1.0.1 (all_split (Keeps rules) (measure_steps rules (suc d) m) _ h.1.1).0)
  measure_nested (binary b m n) d r h =
      let parts = all_split (Keeps rules) (measure_steps rules (suc d) m ++ (_ ∷ measure_steps rules (suc d) n)) _ h.1.1 in
      let both = all_split (Keeps rules) (measure_steps rules (suc d) m) _ parts.0 in
      let left = measure_nested m (suc d) h.1.0.1 both.0 in
      let right = measure_nested n (suc d) h.1.0.1 both.1.1 in
      omega arith
  measure_nested (over s a b m) d r h =
      let parts = all_split (Keeps rules) (window_steps rules a b ++ measure_steps rules (suc d) m) _ h.1.1 in
      let both = all_split (Keeps rules) (window_steps rules a b) (measure_steps rules (suc d) m) parts.0 in
      let inner = measure_nested m (suc d) h.1.0.1 both.1 in
      omega arith

  left_nested : (q : Quantity) (m : MeasureTree) (d : ℕ) → d ≤ rules.nesting → Deep (left_steps rules d q m) → d + left_nesting q (measure_of columns m) ≤ rules.nesting
  left_nested Value m d r h = measure_nested m d r h
  left_nested Change m d r h =
      let inner = measure_nested m (suc d) h.1.0.1 (all_split (Keeps rules) (measure_steps rules (suc d) m) _ h.1.1).0 in
      omega arith

  lead_nested : (d : ℕ) (l : Lead) → Deep (lead_steps rules d l) → d ≤ rules.nesting
  lead_nested d l h = grind arith

  pub property_nested : {level : ℕ} {ts : List Tok} {p : PropertyTree} (k : ℕ) → k ≤ rules.nesting → PropertyText level ts p → Deep (property_steps rules k p) → k + nesting_at level (property_of columns p) ≤ rules.nesting
  property_nested k r (a_comparison {q} {c} {ms} {ns} {m} {n} t u) h =
      let parts = all_split (Keeps rules) (left_steps rules k q m) _ h in
      let left = left_nested q m k r parts.0 in
      let right = measure_nested n k r parts.1.1 in
      omega arith
  property_nested k r (a_prefix {l} {ps} {p} w t) h =
      let parts = all_split (Keeps rules) (lead_steps rules (suc k) l) (property_steps rules (suc k) p) h in
      let inner = property_nested (suc k) (lead_nested (suc k) l parts.0) t parts.1 in
      omega arith
  property_nested k r (a_bracket {ps} {p} t) h = grind (arith, all_split, nesting_bracketed, property_nested (suc k) h.0.1 t (all_split (Keeps rules) (property_steps rules (suc k) p) _ h.1).0)
  property_nested k r (tighter {level} {ps} {p} t) h = grind (arith, nesting_looser, property_nested k r t h)
  property_nested k r (a_link {level} {l} {ps} {qs} {p} {q} e t u) h =
      let parts = all_split (Keeps rules) (property_steps rules k p) (link_steps rules l ++ property_steps rules k q) h in
      let behind = all_split (Keeps rules) (link_steps rules l) (property_steps rules k q) parts.1 in
      let at : connective_level (connective_of l) ≡ suc level = same_level l ∙ e in
      let left = property_nested k r t parts.0 in
      let right = property_nested k r u behind.1 in
      let whole : nesting_at (suc level) (property_of columns (joined l p q)) ≡ max (nesting_at (suc level) (property_of columns p)) (nesting_at level (property_of columns q)) =
      bracket_none (suc level) (connective_level (connective_of l)) _ at
      ∙ ap (λ (i : ℕ). max (nesting_at i (property_of columns p)) (nesting_at (pred i) (property_of columns q))) at in
      omega (arith, whole)
