-- A whole text, told from the formula that its reading begins with: it is read if the text ends behind the formula, and else refused there.
use Rattle.std.proofs.Common.{◌≡◌, ℕ, zero, suc, ◌-◌, Bool, true, false, cond, List, length, drop, replicate, Ok, sym, ap, ◌∙◌, arith}
use native.Mathlib.Nat.{sub-zero, suc-sub-suc, zero-sub}
use Rattle.records.specs.Told.{names}
use Rattle.parts.specs.Order.{parts_of}
use Rattle.parts.specs.declared.kinds.Part.{Part}
use Rattle.tokens.specs.Lexing.{spots}
use Rattle.tokens.specs.Tokens.{Spot, is_stop}
use Rattle.grammar.specs.Meanings.{property_of}
use Rattle.grammar.specs.Reading.{Outcome, got, fault, and_then, first, formula, reading, refuse}
use Rattle.grammar.specs.Steps.{Rules}
use Rattle.grammar.specs.Trees.{PropertyTree}
use Rattle.criteria.specs.Formulas.{blank, is_formula}
use Rattle.criteria.specs.Refusals.{rule_number, rule_with}
use Rattle.criteria.specs.States.{Follows, View, unread}
use Rattle.criteria.specs.Ways.{columns_of, rules_of, tier_way}
use Rattle.criteria.specs.declared.fault.Rule.{Rule}
use Rattle.criteria.specs.declared.scope.Scope.{Scope}
use Rattle.criteria.proofs.ExactTexts.{read_formula}
use Rattle.criteria.proofs.Passing.{passed}

abbrev ended : PropertyTree → ℕ → List Spot → Bool → Outcome PropertyTree
ended p n s b = cond b (got p n s) (refuse 2 s)

behind : (rules : Rules) {p : PropertyTree} {n : ℕ} {s : List Spot} (t : List Spot) → formula rules rules.nesting 0 t ≡ got p n s → reading rules t ≡ ended p n s (is_stop (first s).tok)
behind rules t e = ap (λ (o : Outcome PropertyTree). and_then o (λ p n s. cond (is_stop (first s).tok) (got p n s) (refuse 2 s))) e

pub text_read : (rules : Rules) {p : PropertyTree} {n : ℕ} {s : List Spot} (t : List Spot) → formula rules rules.nesting 0 t ≡ got p n s → is_stop (first s).tok ≡ true → reading rules t ≡ got p n s
text_read rules {p} {n} {s} t e stops = behind rules t e ∙ ap (ended p n s) stops

-- where the text goes on behind its formula, it is refused there
pub text_goes_on : (rules : Rules) {p : PropertyTree} {n : ℕ} {s : List Spot} (t : List Spot) → formula rules rules.nesting 0 t ≡ got p n s → is_stop (first s).tok ≡ false → reading rules t ≡ refuse 2 s
text_goes_on rules t e goes = rw (e, goes)

-- where its formula is refused, the text is refused in the same way
pub text_refused : (rules : Rules) {number place : ℕ} {s : List Spot} (t : List Spot) → formula rules rules.nesting 0 t ≡ fault number place s → reading rules t ≡ fault number place s
text_refused rules t e = rw e

-- a rule is told by its number
pub rule_of_its_number : (r : Rule) → rule_with (rule_number r) ≡ r
rule_of_its_number r = grind arith

-- the places behind the parts stay as they were
pub drop_replicate : {A : Type 0} (k n : ℕ) (x : A) → drop k (replicate n x) ≡ replicate (n - k) x
drop_replicate zero n x = ap (λ (m : ℕ). replicate m x) (sym (sub-zero n))
drop_replicate (suc k) zero x = ap (λ (m : ℕ). replicate m x) (sym (zero-sub (suc k)))
drop_replicate (suc k) (suc n) x = drop_replicate k n x ∙ ap (λ (m : ℕ). replicate m x) (sym (suc-sub-suc n k))

-- what stands in the reader once a whole text is read
pub record Complete (w : View) : Type 0 where
  pub lawful : is_formula (length (names w.scope.header)) w.scope.magnitude w.parts ≡ true
  pub rest : w.behind ≡ replicate (128 - length w.parts) blank

pub whole_text : (scope : Scope) (text : List ℕ) (x : ℕ) (w : View) → Follows (tier_way scope 32 5) (unread scope text) (Ok x) w → is_stop (first w.spots).tok ≡ true → Complete w
whole_text scope text x w e stops =
    let p = passed (tier_way scope 32 5) (unread scope text) x w e in
    let read = text_read (rules_of scope) (spots text) p.reads stops in
    let parts : w.parts ≡ parts_of (property_of (columns_of scope) p.found) = p.grew.parts in
    record {
      lawful = ap (λ (s : Scope). is_formula (length (names s.header)) s.magnitude w.parts) p.grew.scope ∙ ap (is_formula (length (names scope.header)) scope.magnitude) parts ∙ read_formula text (names scope.header) scope.magnitude p.found w.brought w.spots read;
      rest = p.grew.behind ∙ drop_replicate (length (parts_of (property_of (columns_of scope) p.found))) 128 blank ∙ ap (λ (ps : List Part). replicate (128 - length ps) blank) (sym parts);
    }
