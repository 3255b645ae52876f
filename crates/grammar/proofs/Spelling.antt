-- Where a text spells the steps of a tree and no step breaks a rule: such spellings are joined and parted, and are what `first_broken` asks for.
use Rattle.std.proofs.Common.{◌≡◌, ℕ, List, [], ◌∷◌, ◌++◌, map, None, refl, arith}
use Rattle.tokens.specs.Tokens.{Tok, Spot}
use Rattle.grammar.specs.Faults.{brought_by, broken_by}
use Rattle.grammar.specs.Steps.{Rules, Step}

-- after n parts, the text s spells these steps, and none of them breaks a rule; after them there are n' parts, and s' is left
pub data Spelled (rules : Rules) : ℕ → List Spot → List Step → ℕ → List Spot → Type 0 where
  none : {n : ℕ} {s : List Spot} → Spelled rules n s [] n s
  more : {n n' place : ℕ} {s s' : List Spot} {x : Step} {xs : List Step} → broken_by rules n x ≡ None → Spelled rules (brought_by n x) s xs n' s' → Spelled rules n (record { tok = x.tok; at = place } ∷ s) (x ∷ xs) n' s'

abbrev pub step_tokens : List Step → List Tok
step_tokens xs = map (λ x. x.tok) xs

-- a state of reading: the parts brought so far, and what is left
abbrev pub Middle : Rules → ℕ → List Spot → List Step → List Step → ℕ → List Spot → Type 0
Middle rules n s xs ys n' s' = (m : ℕ) × (t : List Spot) × Spelled rules n s xs m t × Spelled rules m t ys n' s'

module _ {rules : Rules} where
  pub join : {n m n' : ℕ} {s t s' : List Spot} {xs ys : List Step} → Spelled rules n s xs m t → Spelled rules m t ys n' s' → Spelled rules n s (xs ++ ys) n' s'
  join none q = q
  join (more k p) q = more k (join p q)

  pub respelled : {n n' : ℕ} {s s' : List Spot} {xs ys : List Step} → xs ≡ ys → Spelled rules n s xs n' s' → Spelled rules n s ys n' s'
  respelled {n} {n'} {s} {s'} e p = grind arith

  pub part : {ys : List Step} (xs : List Step) {n n' : ℕ} {s s' : List Spot} → Spelled rules n s (xs ++ ys) n' s' → Middle rules n s xs ys n' s'
  part [] p = (_, _, none, p)
  part (x ∷ xs) (more k p) = let h = part xs p in (h.0, h.1, more k h.2, h.3)

  -- the tokens that were read
  pub consumed : {n n' : ℕ} {s s' : List Spot} {xs : List Step} → Spelled rules n s xs n' s' → List Spot
  consumed none = []
  consumed (more {place} {x} k p) = record { tok = x.tok; at = place } ∷ consumed p

  pub consumed_then : {n n' : ℕ} {s s' : List Spot} {xs : List Step} (p : Spelled rules n s xs n' s') → consumed p ++ s' ≡ s
  unfolding consumed
  consumed_then none = refl
  consumed_then (more {place} {x} k p) = grind (arith, consumed_then p)

  pub consumed_tokens : {n n' : ℕ} {s s' : List Spot} {xs : List Step} (p : Spelled rules n s xs n' s') → map (λ t. t.tok) (consumed p) ≡ step_tokens xs
  unfolding consumed
  consumed_tokens none = refl
  consumed_tokens (more {x} k p) = grind (arith, consumed_tokens p)
