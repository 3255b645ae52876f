-- When a reader's answer is right for a language: what it read is spelled there and breaks no rule, or what it read goes on in the language and the next token is at fault. One reader after another is right if each is.
use Rattle.std.proofs.Common.{◌≡◌, ℕ, List, ◌∷◌, ◌++◌, length, Some, sym, ap, ◌∙◌, append_assoc, arith}
use Rattle.tokens.specs.Tokens.{Spot}
use Rattle.grammar.specs.Faults.{broken_by}
use Rattle.grammar.specs.Reading.{Outcome, got, fault, Reader, and_then, first, rest}
use Rattle.grammar.specs.Steps.{Rules, Step}
use Rattle.grammar.proofs.Keeping.{Room, room_after}
use Rattle.grammar.proofs.Spelling.{Spelled, join}

-- what a reader may read, and the steps of that
pub record Language (A : Type 0) : Type 1 where
  pub steps : A → List Step
  pub has : A → Type 0

-- a refusal's place: that of the token so many tokens back
pub record Placed (rules : Rules) (n : ℕ) (s : List Spot) (xs : List Step) (n' : ℕ) (s' : List Spot) (back place : ℕ) : Type 0 where
  pub before : List Step
  pub after : List Step
  pub m : ℕ
  pub t : List Spot
  pub until : Spelled rules n s before m t
  pub since : Spelled rules m t after n' s'
  pub all : xs ≡ before ++ after
  pub long : length after ≡ back
  pub there : (first t).at ≡ place

-- why a reader refuses behind xs, where `left` could follow
pub data Why (rules : Rules) (n : ℕ) (s : List Spot) : List Step → ℕ → List Spot → List Step → ℕ → ℕ → Type 0 where
  cannot : {n' : ℕ} {s' : List Spot} {xs left : List Step} → Why rules n s xs n' s' left 2 (first s').at
  broken : {n' at number place : ℕ} {s' : List Spot} {x : Step} {xs left : List Step} → (number ≡ 2 → ⊥) → broken_by rules n' x ≡ Some number → Placed rules n s xs n' (record { tok = x.tok; at = at } ∷ s') x.back place → Why rules n s xs n' (record { tok = x.tok; at = at } ∷ s') (x ∷ left) number place

pub data Right (rules : Rules) {A : Type 0} (L : Language A) (n : ℕ) (s : List Spot) : Outcome A → Type 0 where
  reads : {a : A} {n' : ℕ} {s' : List Spot} → L.has a → Spelled rules n s (L.steps a) n' s' → Right rules L n s (got a n' s')
  refuses : {a : A} {n' number place : ℕ} {s' : List Spot} {xs left : List Step} → L.has a → L.steps a ≡ xs ++ left → Spelled rules n s xs n' s' → Why rules n s xs n' s' left number place → Right rules L n s (fault number place s')

-- a reader that is right wherever it begins
abbrev pub Fine : Rules → {A : Type 0} → Reader A → Language A → Type 0
Fine rules p L = (n : ℕ) (s : List Spot) → Room rules n → Right rules L n s (p n s)

-- the steps go on to those of the language
abbrev pub Onward : {A : Type 0} → Language A → List Step → Type 0
Onward {A} L xs = (a : A) × L.has a × (left : List Step) × (L.steps a ≡ xs ++ left)

regrouped : (xs ys left others : List Step) → (xs ++ (ys ++ left)) ++ others ≡ (xs ++ ys) ++ (left ++ others)
regrouped xs ys left others = simp append_assoc

-- an answer from which it is read on behind the token at hand
abbrev pub behind : {A : Type 0} → Outcome A → Outcome A
behind (got a n s) = got a n (rest s)
behind (fault number place s) = fault number place s

module _ {rules : Rules} where
  placed_behind : {n m n' back place : ℕ} {s t s' : List Spot} {xs ys : List Step} → Spelled rules n s xs m t → Placed rules m t ys n' s' back place → Placed rules n s (xs ++ ys) n' s' back place
  placed_behind {xs} w p =
      record {
        before = xs ++ p.before;
        after = p.after;
        m = p.m;
        t = p.t;
        until = join w p.until;
        since = p.since;
        all = ap (λ (r : List Step). xs ++ r) p.all ∙ sym (append_assoc xs p.before p.after);
        long = p.long;
        there = p.there;
      }

  why_behind : {n m n' number place : ℕ} {s t s' : List Spot} {xs ys left : List Step} (others : List Step) → Spelled rules n s xs m t → Why rules m t ys n' s' left number place → Why rules n s (xs ++ ys) n' s' (left ++ others) number place
  why_behind others w h = grind (arith, cannot, broken, placed_behind)

  -- a refusal of what is read last, where that goes on in M
  refused_behind : {B : Type 0} {M : Language B} {n m n' number place : ℕ} {s t s' : List Spot} {xs ys zs left : List Step} → Spelled rules n s xs m t → zs ≡ ys ++ left → Spelled rules m t ys n' s' → Why rules m t ys n' s' left number place → Onward M (xs ++ zs) → Right rules M n s (fault number place s')
  refused_behind {xs} {ys} {left} w e p why (b, hb, others, eb) = refuses hb (eb ∙ ap (λ (r : List Step). (xs ++ r) ++ others) e ∙ regrouped xs ys left others) (join w p) (why_behind others w why)

  -- what is read first goes on in M whatever it is, and after it the rest is right
  pub then_right : {A B : Type 0} {L : Language A} {M : Language B} {n m : ℕ} {s t : List Spot} {xs : List Step} {o : Outcome A} {f : A → Reader B} → Spelled rules n s xs m t → Room rules m → Right rules L m t o → ((a : A) → L.has a → Onward M (xs ++ L.steps a)) → ((a : A) (n' : ℕ) (s' : List Spot) → L.has a → Room rules n' → Spelled rules n s (xs ++ L.steps a) n' s' → Right rules M n s (f a n' s')) → Right rules M n s (and_then o f)
  then_right w r (reads h p) on k = k _ _ _ h (room_after p r) (join w p)
  then_right w r (refuses {a} h e p why) on k = refused_behind w e p why (on a h)

  -- the same where the first reader leaves its token to be passed over
  pub behind_right : {A B : Type 0} {L : Language A} {M : Language B} {n m : ℕ} {s t : List Spot} {xs : List Step} {f : A → Reader B} (o : Outcome A) → Spelled rules n s xs m t → Room rules m → Right rules L m t (behind o) → ((a : A) → L.has a → Onward M (xs ++ L.steps a)) → ((a : A) (n' : ℕ) (s' : List Spot) → L.has a → Room rules n' → Spelled rules n s (xs ++ L.steps a) n' (rest s') → Right rules M n s (f a n' s')) → Right rules M n s (and_then o f)
  behind_right (got a n' s') w r (reads h p) on k = k a n' s' h (room_after p r) (join w p)
  behind_right (fault number place s') w r (refuses {a} h e p why) on k = refused_behind w e p why (on a h)
