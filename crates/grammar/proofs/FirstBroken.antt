-- The step that is broken first, behind steps that a text spells and that break no rule.
use Rattle.std.proofs.Common.{◌≡◌, ℕ, suc, ◌+◌, List, [], ◌∷◌, ◌++◌, length, Some, None, Option, sym, refl, ◌∙◌, subst, add-zero, add-suc, suc-add, arith}
use Rattle.tokens.specs.Tokens.{Tok, Spot}
use Rattle.grammar.specs.Faults.{brought_by, broken_by, first_broken}
use Rattle.grammar.specs.Laws.{toks}
use Rattle.grammar.specs.Steps.{Rules, Step}
use Rattle.grammar.proofs.Spelling.{Spelled, none, more, step_tokens}

-- what is broken first from x on, by what x breaks
abbrev pub broken_from : Rules → ℕ → Step → List Step → ℕ → Option ℕ → Option (ℕ × ℕ)
broken_from rules n x xs i (Some number) = Some (number, i)
broken_from rules n x xs i None = first_broken rules (brought_by n x) xs (suc i)

pub first_broken_step : (rules : Rules) (n : ℕ) (x : Step) (xs : List Step) (i : ℕ) {o : Option ℕ} → broken_by rules n x ≡ o → first_broken rules n (x ∷ xs) i ≡ broken_from rules n x xs i o
first_broken_step rules n x xs i e = grind arith

module _ {rules : Rules} where
  pub none_broken : {n n' : ℕ} {s s' : List Spot} {xs : List Step} (i : ℕ) → Spelled rules n s xs n' s' → first_broken rules n xs i ≡ None
  none_broken i none = refl
  none_broken {n} i (more {x} {xs} e p) = first_broken_step rules n x xs i e ∙ none_broken (suc i) p

  pub broken_behind : {n n' number : ℕ} {s s' : List Spot} {xs : List Step} (x : Step) (left : List Step) (i : ℕ) → Spelled rules n s xs n' s' → broken_by rules n' x ≡ Some number → first_broken rules n (xs ++ (x ∷ left)) i ≡ Some (number, i + length xs)
  broken_behind {n} {number} x left i none b = grind (arith, first_broken_step, add-zero)
  broken_behind {n} {number} x left i (more {x = y} {xs} e p) b = grind (arith, first_broken_step, suc-add, add-suc, broken_behind x left (suc i) p b)

  -- a text with these tokens spells the steps, if none of them breaks a rule
  pub spelled : (ts : List Spot) (s : List Spot) (xs : List Step) (n i : ℕ) → toks ts ≡ step_tokens xs → first_broken rules n xs i ≡ None → (n' : ℕ) × Spelled rules n (ts ++ s) xs n' s
  spelled [] s [] n i e b = (n, none)
  spelled [] s (x ∷ xs) n i e b = absurd (cc)
  spelled (t ∷ ts) s [] n i e b = absurd (cc)
  spelled (t ∷ ts) s (x ∷ xs) n i e b = by (broken_by rules n x) refl (λ k. spelled ts s xs (brought_by n x) (suc i) (cc) k)
    where
      by : (o : Option ℕ) → broken_by rules n x ≡ o → (first_broken rules (brought_by n x) xs (suc i) ≡ None → (n' : ℕ) × Spelled rules (brought_by n x) (ts ++ s) xs n' s) → (n' : ℕ) × Spelled rules n (t ∷ (ts ++ s)) (x ∷ xs) n' s
      by (Some number) k again = absurd (let none : Some (number, i) ≡ None = sym (first_broken_step rules n x xs i k) ∙ b in cc)
      by None k again =
          let h = again (sym (first_broken_step rules n x xs i k) ∙ b) in
          let is : x.tok ≡ t.tok = cc in
          (h.0, subst (λ (y : Tok). Spelled rules n (record { tok = y; at = t.at } ∷ (ts ++ s)) (x ∷ xs) h.0 s) is (more k h.1))
