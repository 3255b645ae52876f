-- One reader follows another: where the other reads, it reads the same, and where the other says that a token cannot follow, it says so too; and it looks no further than that token. One reader after another follows if each does.
use Rattle.std.proofs.Common.{◌≡◌, ℕ, Bool, true, cond, List, [], ◌∷◌, ◌++◌, sym, refl, ap, ◌∙◌, append_assoc, arith}
use Rattle.tokens.specs.Tokens.{Tok, Spot}
use Rattle.grammar.specs.Reading.{Outcome, got, fault, Reader, and_then, first, rest, refuse}

-- q follows the answer to s
pub data Follows {A : Type 0} (q : List Spot → Outcome A) (s : List Spot) : Outcome A → Type 0 where
  reads_too : {a : A} {n : ℕ} {t : List Spot} (us : List Spot) → s ≡ us ++ t → ((t' : List Spot) → (first t).tok ≡ (first t').tok → q (us ++ t') ≡ got a n t') → Follows q s (got a n t)
  refuses_too : {place : ℕ} {t : List Spot} (us : List Spot) → s ≡ us ++ t → ((t' : List Spot) → (first t).tok ≡ (first t').tok → q (us ++ t') ≡ fault 2 (first t').at t') → Follows q s (fault 2 place t)
  breaks : {number place : ℕ} {t : List Spot} → (number ≡ 2 → ⊥) → Follows q s (fault number place t)

-- the first reader follows the second
abbrev pub FollowsReader : {A : Type 0} → Reader A → Reader A → Type 0
FollowsReader q p = (n : ℕ) (s : List Spot) → Follows (q n) s (p n s)

pub same_first : (us t t' : List Spot) → (first t).tok ≡ (first t').tok → (first (us ++ t)).tok ≡ (first (us ++ t')).tok
same_first [] t t' e = e
same_first (u ∷ us) t t' e = refl

pub follows_as : {A : Type 0} {q r : List Spot → Outcome A} {s : List Spot} {o : Outcome A} → ((t : List Spot) → r t ≡ q t) → Follows q s o → Follows r s o
follows_as e h = grind arith

-- the second reader follows from wherever the first one reads to
pub read_follows : {A B : Type 0} {q : List Spot → Outcome A} {s : List Spot} {o : Outcome A} {f g : A → Reader B} → Follows q s o → ((a : A) (n : ℕ) (t : List Spot) → o ≡ got a n t → Follows (g a n) t (f a n t)) → Follows (λ s. and_then (q s) g) s (and_then o f)
read_follows {q} {s} {f} {g} (reads_too {a} {n} {t} us e h) k = by (f a n t) (k a n t refl)
  where
    on : (vs u t' : List Spot) → t ≡ vs ++ u → (first u).tok ≡ (first t').tok → and_then (q ((us ++ vs) ++ t')) g ≡ g a n (vs ++ t')
    on vs u t' e' same = ap (λ (r : List Spot). and_then (q r) g) (append_assoc us vs t') ∙ ap (λ (o : Outcome _). and_then o g) (h (vs ++ t') (ap (λ (r : List Spot). (first r).tok) e' ∙ same_first vs u t' same))

    whole : (vs u : List Spot) → t ≡ vs ++ u → s ≡ (us ++ vs) ++ u
    whole vs u e' = e ∙ ap (λ (r : List Spot). us ++ r) e' ∙ sym (append_assoc us vs u)

    by : (o : Outcome _) → Follows (g a n) t o → Follows (λ s. and_then (q s) g) s o
    by _ (reads_too {t = u} vs e' h') = reads_too (us ++ vs) (whole vs u e') (λ t' same. on vs u t' e' same ∙ h' t' same)
    by _ (refuses_too {t = u} vs e' h') = refuses_too (us ++ vs) (whole vs u e') (λ t' same. on vs u t' e' same ∙ h' t' same)
    by _ (breaks ne) = breaks ne
read_follows {g} (refuses_too us e h) k = refuses_too us e (λ t' same. ap (λ (o : Outcome _). and_then o g) (h t' same))
read_follows (breaks ne) k = breaks ne

pub then_follows : {A B : Type 0} {q : List Spot → Outcome A} {s : List Spot} {o : Outcome A} {f g : A → Reader B} → Follows q s o → ((a : A) (n : ℕ) (t : List Spot) → Follows (g a n) t (f a n t)) → Follows (λ s. and_then (q s) g) s (and_then o f)
then_follows h k = read_follows h (λ a n t _. k a n t)

-- a reader that goes by the token at hand
pub by_token_follows : {A : Type 0} (q : Tok → List Spot → Outcome A) {s : List Spot} {o : Outcome A} → Follows (q (first s).tok) s o → Follows (λ t. q (first t).tok t) s o
by_token_follows q h = grind (arith, reads_too, same_first, refuses_too, breaks)

-- a reader from behind the token at hand
pub behind_follows : {A : Type 0} {q : List Spot → Outcome A} {x : Spot} {s : List Spot} {o : Outcome A} → Follows q s o → Follows (λ t. q (rest t)) (x ∷ s) o
behind_follows {x} (reads_too us e h) = reads_too (x ∷ us) (ap {B = List Spot} (λ r. x ∷ r) e) h
behind_follows {x} (refuses_too us e h) = refuses_too (x ∷ us) (ap {B = List Spot} (λ r. x ∷ r) e) h
behind_follows (breaks ne) = breaks ne

module _ {A : Type 0} where
  pub refuse_follows : {s : List Spot} {place : ℕ} → Follows {A = A} (λ t. refuse 2 t) s (fault 2 place s)
  refuse_follows = refuses_too [] refl (λ t' same. refl)

  -- nothing is looked at
  pub got_follows : {a : A} {n : ℕ} {s : List Spot} → Follows (λ t. got a n t) s (got a n s)
  got_follows = reads_too [] refl (λ t' same. refl)

  -- the token at hand is taken
  pub taken_follows : {a : A} {n : ℕ} {x : Spot} {s : List Spot} → Follows (λ t. got a n (rest t)) (x ∷ s) (got a n s)
  taken_follows {x} = reads_too (x ∷ []) refl (λ t' same. refl)

  -- a test of the token at hand, which both make
  pub cond_follows : (b : Bool) {q r : List Spot → Outcome A} {s : List Spot} {o o' : Outcome A} → Follows q s o → Follows r s o' → Follows (λ t. cond b (q t) (r t)) s (cond b o o')
  cond_follows b f g = grind arith

  -- a test of a rule, which the reader that follows passes
  pub rule_follows : (b : Bool) (number place : ℕ) (t : List Spot) {q : List Spot → Outcome A} {s : List Spot} {o : Outcome A} → (number ≡ 2 → ⊥) → (b ≡ true → Follows q s o) → Follows q s (cond b o (fault number place t))
  rule_follows b number place t ne f = grind (arith, breaks)

  pub passing_follows : {b : Bool} {q : List Spot → Outcome A} (r : List Spot → Outcome A) {s : List Spot} {o : Outcome A} → b ≡ true → Follows q s o → Follows (λ t. cond b (q t) (r t)) s o
  passing_follows {q} r e f = grind (arith, follows_as)
