-- One part more is written behind those that are there.
use Rattle.std.proofs.Common.{◌≡◌, ℕ, ◌+◌, ◌<◌, List, [], ◌∷◌, ◌++◌, length, take, drop, set, sym, ap, ◌∙◌, arith}
use Rattle.std.proofs.lemmas.List.{take_more_set, drop-set-lt, drop-drop, length-take-le}
use Rattle.parts.specs.declared.kinds.Part.{Part}
use Rattle.tokens.specs.Tokens.{Spot}
use Rattle.criteria.specs.States.{View, grown, view}
use Rattle.criteria.specs.declared.reader.Reader.{Reader}
use Rattle.criteria.specs.declared.scope.Scope.{Scope}

abbrev places : Scope → ℕ → List Spot → List Part → List Part → View
places scope n s ps qs = record { scope = scope; brought = n; spots = s; parts = ps; behind = qs }

pub written : (scope : Scope) (n : ℕ) (s : List Spot) (ps : List Part) (i : ℕ) (p : Part) → i < length ps → places scope n s (take (i + 1) (set ps i p)) (drop (i + 1) (set ps i p)) ≡ grown (places scope n s (take i ps) (drop i ps)) (p ∷ []) n s
written scope n s ps i p h =
    ap (λ (qs : List Part). places scope n s qs (drop (i + 1) (set ps i p))) (take_more_set ps i p h)
    ∙ ap (λ (qs : List Part). places scope n s (take i ps ++ (p ∷ [])) qs) (drop-set-lt (i + 1) ps i p (omega arith) ∙ sym (drop-drop 1 i ps))

-- as many parts are written as are counted
pub counted : (r : Reader) → length (view r).parts ≡ r.count
counted r = length-take-le r.count r.parts (omega (arith, r.places, r.few, r.written))
