-- Which rule a step breaks, by the tests that a reader makes: of a token that brings nothing its own rule, else also whether there is room for its part and its nesting.
use Rattle.std.proofs.Common.{◌≡◌, ℕ, suc, ◌+◌, Bool, true, ltb, leb, List, ◌∷◌, None, Option, arith}
use lib.Dec.{leb-zero}
use Rattle.tokens.specs.Tokens.{Tok, Spot}
use Rattle.grammar.specs.Faults.{brought_by, broken_by}
use Rattle.grammar.specs.Steps.{Rules, Step, unless, or_else, plain, bringing, nesting, limited}
use Rattle.grammar.proofs.Spelling.{Spelled, none, more}

-- no more parts than may be brought
abbrev pub Room : Rules → ℕ → Type 0
Room rules n = leb n rules.parts ≡ true

-- no deeper than may be nested
abbrev pub Within : Rules → ℕ → Type 0
Within rules d = leb d rules.nesting ≡ true

or_none : (o : Option ℕ) → or_else o None ≡ o
or_none o = grind arith

pub none_or : (o p : Option ℕ) → or_else o p ≡ None → (o ≡ None) × (p ≡ None)
none_or o p e = grind arith

pub unless_none : (b : Bool) (number : ℕ) → unless b number ≡ None → b ≡ true
unless_none b number e = grind arith

-- how deeply a bracket is nested, where so many nestings are left
pub leb_left : (d left : ℕ) → leb (suc d) (d + left) ≡ ltb 0 left
leb_left d left = grind arith

module _ (rules : Rules) where
  -- a step that brings no more than there is room for is judged by its own rule
  pub judged : (n : ℕ) (x : Step) → Room rules (brought_by n x) → Within rules x.depth → broken_by rules n x ≡ x.breaks
  judged n x r w = grind (arith, or_none)

  pub flat : Within rules 0
  flat = leb-zero rules.nesting

  pub plain_judged : (n : ℕ) (t : Tok) → Room rules n → broken_by rules n (plain t) ≡ None
  plain_judged n t r = judged n (plain t) r flat

  pub limited_judged : (n : ℕ) (t : Tok) (o : Option ℕ) → Room rules n → broken_by rules n (limited t o) ≡ o
  limited_judged n t o r = judged n (limited t o) r flat

  pub bringing_judged : (n : ℕ) (t : Tok) → broken_by rules n (bringing t) ≡ unless (leb (suc n) rules.parts) 6
  bringing_judged n t = grind arith

  pub nesting_judged : (n d : ℕ) (t : Tok) → Room rules n → broken_by rules n (nesting d t) ≡ unless (leb d rules.nesting) 6
  nesting_judged n d t r = grind arith

  -- what a step that breaks no rule keeps
  pub kept : (n : ℕ) (x : Step) → broken_by rules n x ≡ None → (x.breaks ≡ None) × Room rules (brought_by n x) × Within rules x.depth
  kept n x e = grind arith

-- a step that keeps the rules has its nesting, and so there was some left
pub left_for : (rules : Rules) (n d left : ℕ) (x : Step) → d + left ≡ rules.nesting → x.depth ≡ suc d → broken_by rules n x ≡ None → ltb 0 left ≡ true
left_for rules n d left x deep is e = grind arith

pub opened : {rules : Rules} {n n' : ℕ} {s s' : List Spot} {xs : List Step} (d left : ℕ) (x : Step) → d + left ≡ rules.nesting → x.depth ≡ suc d → Spelled rules n s (x ∷ xs) n' s' → ltb 0 left ≡ true
opened {rules} {n} d left x deep is (more e w) = left_for rules n d left x deep is e

pub room_after : {rules : Rules} {n n' : ℕ} {s s' : List Spot} {xs : List Step} → Spelled rules n s xs n' s' → Room rules n → Room rules n'
room_after none r = r
room_after {rules} {n} (more {x} e p) r = room_after p (kept rules n x e).1
