-- A refusal is at the first token at fault: what stands before it goes on to a text, and the token cannot follow, or it is the first that breaks a rule.
use Rattle.std.proofs.Common.{◌≡◌, ℕ, ◌+◌, ◌-◌, List, ◌∷◌, ◌++◌, length, take, drop, Some, sym, refl, ap, ◌∙◌, subst, zero-add, arith, length-append}
use mathlib.Core.List.{map-append}
use lib.ListN.{length-map}
use lib.Seq.{take-append_seam, drop-append_seam}
use Rattle.std.specs.List.{slice_get}
use Rattle.tokens.specs.Tokens.{Tok, Spot}
use Rattle.parts.proofs.NodesOfParts.{nth_at}
use Rattle.grammar.specs.Faults.{first_broken}
use Rattle.grammar.specs.Laws.{toks, steps, Unbroken, Breaks}
use Rattle.grammar.specs.Layers.{PropertyText, loosest}
use Rattle.grammar.specs.Reading.{fault, first, reading}
use Rattle.grammar.specs.Steps.{Rules, Step}
use Rattle.grammar.specs.Trees.{PropertyTree}
use Rattle.grammar.proofs.FirstBroken.{none_broken, broken_behind}
use Rattle.grammar.proofs.Outcomes.{Why, cannot, broken, Placed, Right, refuses}
use Rattle.grammar.proofs.PropertyReaders.{AProperty, properties}
use Rattle.grammar.proofs.SoundReading.{reading_right}
use Rattle.grammar.proofs.Spelling.{Spelled, step_tokens, consumed, consumed_then, consumed_tokens}
use Rattle.grammar.proofs.TextTokens.{property_tokens}

module _ {rules : Rules} where
  consumed_length : {n n' : ℕ} {s s' : List Spot} {xs : List Step} (w : Spelled rules n s xs n' s') → length (consumed w) ≡ length xs
  consumed_length {xs} w = sym (length-map (consumed w) (λ t. t.tok)) ∙ ap length (consumed_tokens w) ∙ length-map xs (λ x. x.tok)

  -- the text of a tree, by what was read of it and what is left
  text_of : {n : ℕ} {s s' : List Spot} {xs : List Step} {p : PropertyTree} (left : List Step) → AProperty loosest p → steps rules p ≡ xs ++ left → (w : Spelled rules 0 s xs n s') → PropertyText loosest (toks (consumed w) ++ step_tokens left) p
  text_of {xs} {p} left h e w = subst (λ (ts : List Tok). PropertyText loosest ts p) (sym (property_tokens rules 0 h.1) ∙ ap step_tokens e ∙ map-append (λ (x : Step). x.tok) xs left ∙ ap (λ (ts : List Tok). ts ++ step_tokens left) (sym (consumed_tokens w))) h.1

  -- none of what was read breaks a rule
  kept_so_far : {n : ℕ} {s s' : List Spot} {xs : List Step} (left : List Step) (p : PropertyTree) → steps rules p ≡ xs ++ left → (w : Spelled rules 0 s xs n s') → Unbroken rules (take (length (toks (consumed w))) (steps rules p))
  kept_so_far left p e w = grind (arith, length-map, consumed_length, take-append_seam, none_broken)

  -- the place of the token so many tokens back
  place_of : {n back place : ℕ} {s s' : List Spot} {xs : List Step} → Placed rules 0 s xs n s' back place → (w : Spelled rules 0 s xs n s') → place ≡ (first (drop (length (consumed w) - back) s)).at
  place_of {n} {back} {place} {s} {s'} {xs} q w =
      let whole : length xs ≡ length q.before + length q.after = ap length q.all ∙ length-append q.before q.after in
      let k : length (consumed w) - back ≡ length (consumed q.until) = omega (arith, consumed_length w, consumed_length q.until, whole, q.long) in
      sym q.there ∙ ap (λ (u : List Spot). (first u).at) (sym (drop-append_seam (consumed q.until) q.t) ∙ ap (λ (u : List Spot). drop (length (consumed q.until)) u) (consumed_then q.until) ∙ ap (λ (i : ℕ). drop i s) (sym k))

  -- a refusal by 2 is placed at the token that cannot follow
  cannot_there : {n n' number place : ℕ} {s s' : List Spot} {xs left : List Step} → number ≡ 2 → Why rules n s xs n' s' left number place → place ≡ (first s').at
  cannot_there two h = grind arith

  breaks_there : {n number place : ℕ} {s s' : List Spot} {xs left : List Step} {p : PropertyTree} → AProperty loosest p → steps rules p ≡ xs ++ left → (w : Spelled rules 0 s xs n s') → (number ≡ 2 → ⊥) → Why rules 0 s xs n s' left number place → (back : ℕ) × (place ≡ (first (drop (length (consumed w) - back) s)).at) × Breaks rules (toks (consumed w)) (first s').tok number back
  breaks_there h k w not_two cannot = absurd (not_two refl)
  breaks_there {number} {xs} {p} h k w not_two (broken {x} {left} ne b q) =
      let size : length (toks (consumed w)) ≡ length xs = length-map (consumed w) (λ t. t.tok) ∙ consumed_length w in
      let there : slice_get (steps rules p) (length (toks (consumed w))) ≡ Some x = ap (λ (i : ℕ). slice_get (steps rules p) i) size ∙ ap (λ (ys : List Step). slice_get ys (length xs)) k ∙ nth_at xs left x in (
        x.back,
        place_of q w,
        record {
          more = step_tokens left;
          p = p;
          text = text_of (x ∷ left) h k w;
          broken = ap (λ (ys : List Step). first_broken rules 0 ys 0) k ∙ broken_behind x left 0 w b ∙ ap (λ (i : ℕ). Some (number, i)) (zero-add (length xs) ∙ sym size);
          placed = λ y e. let both : Some y ≡ Some x = sym e ∙ there in cc;
        },
      )

-- a refusal, with what was read before it
refusal_right : (rules : Rules) (s : List Spot) (number place : ℕ) (s' : List Spot) → reading rules s ≡ fault number place s' → Right rules (properties rules 0 loosest) 0 s (fault number place s')
refusal_right rules s number place s' e = grind (arith, reading_right)

-- what stands before goes on to a text, and none of it breaks a rule
abbrev pub GoesOn : Rules → List Tok → Type 0
GoesOn rules before = (more : List Tok) × (p : PropertyTree) × PropertyText loosest (before ++ more) p × Unbroken rules (take (length before) (steps rules p))

pub goes_on : (rules : Rules) (s : List Spot) (place : ℕ) (s' : List Spot) → reading rules s ≡ fault 2 place s' → (before : List Spot) × (before ++ s' ≡ s) × (place ≡ (first s').at) × GoesOn rules (toks before)
goes_on rules s place s' e = by (refusal_right rules s 2 place s' e)
  where
    by : Right rules (properties rules 0 loosest) 0 s (fault 2 place s') → (before : List Spot) × (before ++ s' ≡ s) × (place ≡ (first s').at) × GoesOn rules (toks before)
    by (refuses {a} {left} h k w why) = (consumed w, consumed_then w, cannot_there refl why, (step_tokens left, a, text_of left h k w, kept_so_far left a k w))

pub breaks_first : (rules : Rules) (s : List Spot) (number place : ℕ) (s' : List Spot) → reading rules s ≡ fault number place s' → (number ≡ 2 → ⊥) → (before : List Spot) × (before ++ s' ≡ s) × (back : ℕ) × (place ≡ (first (drop (length before - back) s)).at) × Breaks rules (toks before) (first s').tok number back
breaks_first rules s number place s' e not_two = by (refusal_right rules s number place s' e)
  where
    by : Right rules (properties rules 0 loosest) 0 s (fault number place s') → (before : List Spot) × (before ++ s' ≡ s) × (back : ℕ) × (place ≡ (first (drop (length before - back) s)).at) × Breaks rules (toks before) (first s').tok number back
    by (refuses h k w why) = let b = breaks_there h k w not_two why in (consumed w, consumed_then w, b.0, b.1, b.2)
