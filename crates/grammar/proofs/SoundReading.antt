-- What is read is the tree of the text.
use Rattle.std.proofs.Common.{◌≡◌, ℕ, Bool, true, false, cond, List, [], ◌∷◌, ◌++◌, sym, refl, ap, ◌∙◌, subst, append-nil, arith}
use lib.Dec.{leb-zero}
use Rattle.std.specs.List.{AllByRecursion}
use Rattle.tokens.specs.Tokens.{Tok, Spot, stop, is_stop}
use Rattle.grammar.specs.Laws.{toks, ended, steps, Reads, IsToken}
use Rattle.grammar.specs.Layers.{PropertyText, loosest}
use Rattle.grammar.specs.Reading.{Outcome, got, refuse, first, reading}
use Rattle.grammar.specs.Steps.{Rules, property_steps}
use Rattle.grammar.specs.Trees.{PropertyTree}
use Rattle.grammar.proofs.FirstBroken.{none_broken}
use Rattle.grammar.proofs.Outcomes.{cannot, Right, reads, refuses, then_right}
use Rattle.grammar.proofs.PropertyReaders.{AProperty, properties, formula_fine}
use Rattle.grammar.proofs.Spelling.{Spelled, step_tokens, consumed, consumed_then, consumed_tokens}
use Rattle.grammar.proofs.Spelling as spelling
use Rattle.grammar.proofs.TextTokens.{Tokens, more, property_tokens, property_has_tokens}

pub reading_right : (rules : Rules) (s : List Spot) → Right rules (properties rules 0 loosest) 0 s (reading rules s)
reading_right rules s =
    then_right spelling.Spelled.none (leb-zero rules.parts) (formula_fine 0 s (leb-zero rules.parts)) (λ p h. (p, h, [], sym (append-nil _))) (λ p n t h r w. by p n t h w (is_stop (first t).tok))
  where
    by : (p : PropertyTree) (n : ℕ) (t : List Spot) → AProperty loosest p → Spelled rules 0 s (property_steps rules 0 p) n t → (b : Bool) → Right rules (properties rules 0 loosest) 0 s (cond b (got p n t) (refuse 2 t))
    by p n t h w true = reads h w
    by p n t h w false = refuses h (sym (append-nil _)) w cannot

-- where something is read, the text ends behind it
reading_ends : (rules : Rules) (s : List Spot) (p : PropertyTree) (n : ℕ) (t : List Spot) → reading rules s ≡ got p n t → (first t).tok ≡ stop
reading_ends rules s p n t e = grind arith

-- what stands before the end of the text is the whole text
all_read : (us ts s : List Spot) (end : ℕ) → us ++ s ≡ ended ts end → (first s).tok ≡ stop → AllByRecursion (λ t. IsToken t.tok) ts → Tokens (toks us) → us ≡ ts
all_read [] [] s end e f h k = refl
all_read [] (t ∷ ts) s end e f h k = grind arith
all_read (u ∷ us) [] s end e f h (more i k) = grind arith
all_read (u ∷ us) (t ∷ ts) s end e f h (more i k) =
    let there : us ++ s ≡ ended ts end = cc in
    let here : u ≡ t = cc in
    let same = all_read us ts s end there f h.1 k in
    cc

pub sound_reading : (rules : Rules) (ts : List Spot) (end : ℕ) → AllByRecursion (λ t. IsToken t.tok) ts → (p : PropertyTree) (n : ℕ) (s : List Spot) → reading rules (ended ts end) ≡ got p n s → Reads rules (toks ts) p
sound_reading rules ts end all p n s e = by (subst (λ (o : Outcome PropertyTree). Right rules (properties rules 0 loosest) 0 (ended ts end) o) e (reading_right rules (ended ts end)))
  where
    by : Right rules (properties rules 0 loosest) 0 (ended ts end) (got p n s) → Reads rules (toks ts) p
    by (reads h w) =
        let is : step_tokens (steps rules p) ≡ h.0 = property_tokens rules 0 h.1 in
        let spelled = consumed_tokens w ∙ is in
        let same = all_read (consumed w) ts s end (consumed_then w) (reading_ends rules (ended ts end) p n s e) all (subst Tokens (sym spelled) (property_has_tokens h.1)) in
        record { text = subst (λ (us : List Tok). PropertyText loosest us p) (sym spelled ∙ ap toks same) h.1; kept = none_broken 0 w }
