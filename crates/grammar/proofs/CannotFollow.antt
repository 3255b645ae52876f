-- Where a token is refused since it cannot follow, no text goes on with it, and at the end of the text what stands before is none.
use Rattle.std.proofs.Common.{◌≡◌, ℕ, ◌+◌, List, [], ◌++◌, length, take, sym, refl, ap, ◌∙◌, subst, append_assoc, arith, length-append}
use lib.Seq.{take-append_seam}
use Rattle.tokens.specs.Tokens.{Spot}
use Rattle.grammar.specs.Laws.{toks, ended}
use Rattle.grammar.specs.Layers.{PropertyText, loosest}
use Rattle.grammar.specs.Reading.{Outcome, got, fault, first, reading}
use Rattle.grammar.specs.Steps.{Rules}
use Rattle.grammar.specs.Trees.{PropertyTree}
use Rattle.grammar.proofs.CompleteReading.{complete_reading}
use Rattle.grammar.proofs.Following.{Follows, refuses_too, breaks}
use Rattle.grammar.proofs.LaxLevels.{reading_follows}
use Rattle.grammar.proofs.LaxReaders.{lax}
use Rattle.grammar.proofs.LaxTrees.{property_depth, reads_lax}

same_before : (us vs s : List Spot) → us ++ s ≡ vs ++ s → us ≡ vs
same_before us vs s e =
    let k : length us ≡ length vs = omega (arith, ap length e, length-append us s, length-append vs s) in
    sym (take-append_seam us s) ∙ ap (λ (r : List Spot). take (length us) r) e ∙ ap (λ (i : ℕ). take i (vs ++ s)) k ∙ take-append_seam vs s

-- whatever begins with the refused token
pub no_text : (rules : Rules) (s₀ s before : List Spot) (place : ℕ) → reading rules s₀ ≡ fault 2 place s → before ++ s ≡ s₀ → (ws : List Spot) → (first s).tok ≡ (first (ended ws 0)).tok → (p : PropertyTree) → PropertyText loosest (toks (before ++ ws)) p → ⊥
no_text rules s₀ s before place e split ws same p t = by refl (subst (λ (o : Outcome PropertyTree). Follows (reading loose) s₀ o) e (reading_follows rules parts nesting (omega arith) (omega arith) s₀))
  where
    parts : ℕ
    parts = rules.parts + length (toks (before ++ ws))

    nesting : ℕ
    nesting = rules.nesting + property_depth p

    loose : Rules
    loose = lax parts nesting

    read : (n : ℕ) × (reading loose (ended (before ++ ws) 0) ≡ got p n (ended [] 0))
    read = complete_reading loose (before ++ ws) 0 p (reads_lax parts nesting (toks (before ++ ws)) p (omega arith) (omega arith) t)

    by : {number : ℕ} → number ≡ 2 → Follows (reading loose) s₀ (fault number place s) → ⊥
    by two (refuses_too us f h) =
        let is = same_before us before s (sym f ∙ sym split) in
        let there : reading loose (ended (before ++ ws) 0) ≡ fault 2 (first (ended ws 0)).at (ended ws 0) = ap (reading loose) (append_assoc before ws (ended [] 0) ∙ ap (λ (r : List Spot). r ++ ended ws 0) (sym is)) ∙ h (ended ws 0) same in
        let both : got p read.0 (ended [] 0) ≡ fault 2 (first (ended ws 0)).at (ended ws 0) = sym read.1 ∙ there in cc
    by two (breaks ne) = ne two
