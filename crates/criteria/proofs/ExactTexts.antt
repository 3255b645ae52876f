-- A text is read exactly, and what is read of it is a formula.
use Rattle.std.proofs.Common.{◌≡◌, ℕ, suc, ◌+◌, ◌<◌, ◌≤◌, Bool, true, false, cond, List, [], ◌∷◌, length, Some, Option, sym, ap, ◌∙◌, arith}
use Rattle.std.specs.Str.{bytes_eq}
use Rattle.std.proofs.ByRecursion.{All-weaker}
use Rattle.std.proofs.lemmas.Bool.Decides.{nat_tests}
use Rattle.records.specs.Headers.{column_from}
use Rattle.parts.specs.Formulas.{Property}
use Rattle.parts.specs.Limits.{lawful}
use Rattle.parts.specs.Nesting.{depth}
use Rattle.parts.specs.Order.{parts_of}
use Rattle.parts.proofs.PartsOfTrees.{tree_of_parts_of}
use Rattle.tokens.specs.Lexing.{spots}
use Rattle.tokens.specs.Tokens.{Tok, Spot, is_stop}
use Rattle.tokens.proofs.Ends.{spots_end}
use Rattle.grammar.specs.Laws.{IsToken, steps}
use Rattle.grammar.specs.Meanings.{Columns, property_of}
use Rattle.grammar.specs.Reading.{got, reading}
use Rattle.grammar.specs.Rules.{rules_for}
use Rattle.grammar.specs.Trees.{PropertyTree}
use Rattle.grammar.proofs.ExactReading.{reading_exact}
use Rattle.grammar.proofs.LawfulTrees.{all_kept, property_lawful}
use Rattle.grammar.proofs.NestedTrees.{property_nested}
use Rattle.criteria.specs.Criteria.{ReadExactly, columns_in}
use Rattle.criteria.specs.Formulas.{is_formula, is_within}

goes_on_token : (t : Tok) → is_stop t ≡ false → IsToken t
goes_on_token t e is = let z : true ≡ false = sym (ap is_stop is) ∙ e in let w : ◌≡◌ {A = ℕ} 0 1 = cc in omega arith

pub read_exactly : (text : List ℕ) (columns : Columns) (largest : ℕ) → ReadExactly text columns largest
read_exactly text columns largest =
    let end = spots_end text in
    let all = All-weaker (λ (t : Spot). is_stop t.tok ≡ false) (λ (t : Spot). IsToken t.tok) (λ t e. goes_on_token t.tok e) end.tokens end.all in
    record { tokens = end.tokens; split = end.split; all = all; exact = reading_exact (rules_for columns largest) end.tokens (length text) all }

-- a column that is found is one of the header's
column_by : (same : Bool) (n v i : ℕ) (rest : Option ℕ) → cond same (Some i) rest ≡ Some v → (rest ≡ Some v → v < suc i + n) → v < i + suc n
column_by true n v i rest e f = let is : i ≡ v = cc in omega arith
column_by false n v i rest e f = let below = f e in omega arith

column_within : (names : List (List ℕ)) (name : List ℕ) (i v : ℕ) → column_from names name i ≡ Some v → v < i + length names
column_within [] name i v e = let z : ◌≡◌ {A = ℕ} 0 1 = cc in absurd (omega arith)
column_within (n ∷ names) name i v e =
    column_by (bytes_eq n name) (length names) v i (column_from names name (i + 1)) e
    (λ k. let below = column_within names name (i + 1) v k in omega arith)

within_limits : (width largest : ℕ) (f : Property) → lawful width largest f ≡ true → depth f ≤ 32 → is_within width largest (Some f) ≡ true
within_limits width largest f e h = rw e (grind (arith, nat_tests))

-- what is read is a formula
pub read_formula : (text : List ℕ) (names : List (List ℕ)) (largest : ℕ) (p : PropertyTree) (n : ℕ) (s : List Spot) → reading (rules_for (columns_in names) largest) (spots text) ≡ got p n s → is_formula (length names) largest (parts_of (property_of (columns_in names) p)) ≡ true
read_formula text names largest p n s e =
    let exact = read_exactly text (columns_in names) largest in
    let reads = exact.exact.sound (ap (reading (rules_for (columns_in names) largest)) (sym exact.split) ∙ e) in
    let kept = all_kept (rules_for (columns_in names) largest) 0 (steps (rules_for (columns_in names) largest) p) 0 reads.kept in
    let f = property_of (columns_in names) p in
    let deep = property_nested (rules_for (columns_in names) largest) (columns_in names) 0 (omega arith) reads.text kept in
    ap (is_within (length names) largest) (tree_of_parts_of f)
    ∙ within_limits (length names) largest f
    (property_lawful (columns_in names) largest (length names) (λ name v k. let below = column_within names name 0 v k in omega arith) 0 reads.text kept)
    (omega arith)
