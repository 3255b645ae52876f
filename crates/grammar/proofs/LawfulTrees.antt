-- A tree of which no token breaks a rule is a formula within the limits.
use Rattle.std.proofs.Common.{◌≡◌, ℕ, suc, ◌<◌, ◌≤◌, Bool, true, false, ltb, List, [], ◌∷◌, ◌++◌, nat_abs, is_some, Some, None, Option, unwrap_or, sym, refl, ◌∙◌, arith, leb-true}
use Rattle.std.proofs.lemmas.Bool.{and_from}
use Rattle.std.specs.List.{AllByRecursion}
use Rattle.parts.specs.Limits.{lawful, lawful_measure, lawful_prefix, lawful_connective, lawful_window}
use Rattle.parts.specs.declared.kinds.Quantity.{Quantity}
use Rattle.parts.specs.declared.kinds.Quantity.TheVariants.{Value, Change}
use Rattle.tokens.specs.Tokens.{Tok}
use Rattle.tokens.specs.declared.words.Sign.{Sign}
use Rattle.grammar.specs.Faults.{first_broken, broken_by, brought_by}
use Rattle.grammar.specs.Layers.{MeasureText, a_numeral, a_variable, a_unary, a_binary, a_statistic, PropertyText, a_comparison, a_prefix, a_bracket, tighter, a_link}
use Rattle.grammar.specs.Meanings.{Columns, signed, measure_of, prefix_of, connective_of, property_of, window}
use Rattle.grammar.specs.Rules.{rules_for}
use Rattle.grammar.specs.Steps.{Rules, Step, measure_steps, window_steps, lead_steps, link_steps, left_steps, property_steps}
use Rattle.grammar.specs.Trees.{MeasureTree, Lead, Link, PropertyTree}
use Rattle.grammar.proofs.FirstBroken.{first_broken_step}
use Rattle.grammar.proofs.Keeping.{kept, unless_none}

-- what a step keeps that breaks no rule
abbrev pub Keeps : Rules → Step → Type 0
Keeps rules x = (x.breaks ≡ None) × (x.depth ≤ rules.nesting)

pub all_split : {X : Type 0} (P : X → Type 0) (xs ys : List X) → AllByRecursion P (xs ++ ys) → AllByRecursion P xs × AllByRecursion P ys
all_split P [] ys h = (tt, h)
all_split P (x ∷ xs) ys h = grind (arith, all_split P xs ys h.1)

pub all_kept : (rules : Rules) (n : ℕ) (xs : List Step) (i : ℕ) → first_broken rules n xs i ≡ None → AllByRecursion (Keeps rules) xs
all_kept rules n [] i e = tt
all_kept rules n (x ∷ xs) i e = by (broken_by rules n x) refl (λ k. all_kept rules (brought_by n x) xs (suc i) k)
  where
    by : (o : Option ℕ) → broken_by rules n x ≡ o → (first_broken rules (brought_by n x) xs (suc i) ≡ None → AllByRecursion (Keeps rules) xs) → AllByRecursion (Keeps rules) (x ∷ xs)
    by None b rest =
        let here = kept rules n x b in
        ((here.0, leb-true x.depth rules.nesting here.2), rest (sym (first_broken_step rules n x xs i b) ∙ e))
    by (Some number) b rest = absurd (let none : Some (number, i) ≡ None = sym (first_broken_step rules n x xs i b) ∙ e in cc)

magnitude_of_signed : (s : Sign) (n : ℕ) → nat_abs (signed s n) ≡ n
magnitude_of_signed s n = grind arith

known_column : (o : Option ℕ) (width : ℕ) → is_some o ≡ true → ((v : ℕ) → o ≡ Some v → v < width) → ltb (unwrap_or o 0) width ≡ true
known_column o width e h = grind arith

module _ (columns : Columns) (largest width : ℕ) (known : (name : List ℕ) (v : ℕ) → columns name ≡ Some v → v < width) where
  abbrev rules : Rules
  rules = rules_for columns largest

  abbrev Kept : List Step → Type 0
  Kept xs = AllByRecursion (Keeps rules) xs

  window_lawful : (a b : ℕ) → Kept (window_steps rules a b) → lawful_window (window a b) ≡ true
  window_lawful a b h = grind arith

  pub measure_lawful : {inside : Bool} {ts : List Tok} {m : MeasureTree} (d : ℕ) → MeasureText inside ts m → Kept (measure_steps rules d m) → lawful_measure width largest inside (measure_of columns m) ≡ true
  measure_lawful d (a_numeral {inside} {s} {n}) h = grind (arith, magnitude_of_signed, unless_none)
  measure_lawful d (a_variable {inside} {name}) h = grind (arith, known_column, unless_none)
  measure_lawful d (a_unary {inside} {u} {ms} {m} t) h =
      let parts = all_split (Keeps rules) (measure_steps rules (suc d) m) _ h.1.1 in
      and_from _ _ (measure_lawful (suc d) t parts.0) (unless_none _ 7 parts.1.0.0)
  measure_lawful d (a_binary {inside} {b} {ms} {ns} {m} {n} t u) h =
      let parts = all_split (Keeps rules) (measure_steps rules (suc d) m ++ (_ ∷ measure_steps rules (suc d) n)) _ h.1.1 in
      let both = all_split (Keeps rules) (measure_steps rules (suc d) m) _ parts.0 in
      and_from _ _ (measure_lawful (suc d) t both.0) (and_from _ _ (measure_lawful (suc d) u both.1.1) (unless_none _ 7 parts.1.0.0))
  measure_lawful d (a_statistic {s} {a} {b} {ms} {m} t) h =
      let parts = all_split (Keeps rules) (window_steps rules a b ++ measure_steps rules (suc d) m) _ h.1.1 in
      let both = all_split (Keeps rules) (window_steps rules a b) (measure_steps rules (suc d) m) parts.0 in
      and_from _ _ (window_lawful a b both.0) (and_from _ _ (measure_lawful (suc d) t both.1) (unless_none _ 7 parts.1.0.0))

  lead_lawful : (d : ℕ) (l : Lead) → Kept (lead_steps rules d l) → lawful_prefix (prefix_of l) ≡ true
  lead_lawful d l h = grind arith

  link_lawful : (l : Link) → Kept (link_steps rules l) → lawful_connective (connective_of l) ≡ true
  link_lawful l h = grind arith

  left_lawful : {ts : List Tok} {m : MeasureTree} (d : ℕ) (q : Quantity) → MeasureText false ts m → Kept (left_steps rules d q m) → lawful_measure width largest false (measure_of columns m) ≡ true
  left_lawful d Value t h = measure_lawful d t h
  left_lawful {m = m} d Change t h = measure_lawful (suc d) t (all_split (Keeps rules) (measure_steps rules (suc d) m) _ h.1.1).0

  pub property_lawful : {level : ℕ} {ts : List Tok} {p : PropertyTree} (d : ℕ) → PropertyText level ts p → Kept (property_steps rules d p) → lawful width largest (property_of columns p) ≡ true
  property_lawful k (a_comparison {q} {c} {ms} {ns} {m} {n} t u) h =
      let parts = all_split (Keeps rules) (left_steps rules k q m) _ h in
      and_from _ _ (left_lawful k q t parts.0) (measure_lawful k u parts.1.1)
  property_lawful d (a_prefix {l} {ps} {p} w t) h =
      let parts = all_split (Keeps rules) (lead_steps rules (suc d) l) (property_steps rules (suc d) p) h in
      and_from _ _ (lead_lawful (suc d) l parts.0) (property_lawful (suc d) t parts.1)
  property_lawful d (a_bracket {ps} {p} t) h = property_lawful (suc d) t (all_split (Keeps rules) (property_steps rules (suc d) p) _ h.1).0
  property_lawful d (tighter t) h = property_lawful d t h
  property_lawful d (a_link {level} {l} {ps} {qs} {p} {q} e t u) h =
      let parts = all_split (Keeps rules) (property_steps rules d p) (link_steps rules l ++ property_steps rules d q) h in
      let behind = all_split (Keeps rules) (link_steps rules l) (property_steps rules d q) parts.1 in
      and_from _ _ (link_lawful l behind.0) (and_from _ _ (property_lawful d t parts.0) (property_lawful d u behind.1))
