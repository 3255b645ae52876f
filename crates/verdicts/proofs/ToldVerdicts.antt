-- Verdicts with the reason for them: of the connectives, and of F, G and U along some states. Assumes nothing.
use Rattle.std.proofs.Common.{ℕ, ◌<◌, ◌⊎◌, List, [], ◌∷◌, inr, arith}
use mathlib.Core.List.{foldr}
use Rattle.verdicts.specs.Tables.{greater, lesser, swap}
use Rattle.verdicts.specs.Windows.{Among, Rising}
use Rattle.verdicts.specs.declared.verdict.Verdict.{Verdict}
use Rattle.verdicts.specs.declared.verdict.Verdict.TheVariants.{False, True}

-- a verdict with the reason for it
pub data Told (P : Type 0) : Verdict → Type 0 where
  right : P → Told P True
  wrong : (P → ⊥) → Told P False

pub told_as : {P Q : Type 0} {v : Verdict} → (P → Q) → (Q → P) → Told P v → Told Q v
told_as into back h = grind (arith, right, wrong)

pub told_not : {P : Type 0} {v : Verdict} → Told P v → Told (P → ⊥) (swap v)
told_not h = grind (arith, right, wrong)

pub told_and : {P Q : Type 0} {v w : Verdict} → Told P v → Told Q w → Told (P × Q) (lesser v w)
told_and h k = grind (arith, right, wrong)

pub told_or : {P Q : Type 0} {v w : Verdict} → Told P v → Told Q w → Told (P ⊎ Q) (greater v w)
told_or h k = grind (arith, right, wrong)

-- what some, what every one of some states satisfies, and until along them
told_some : {P : ℕ → Type 0} {v w : Verdict} (j : ℕ) (js : List ℕ) → Told (P j) v → Told ((k : ℕ) × Among k js × P k) w → Told ((k : ℕ) × Among k (j ∷ js) × P k) (greater v w)
told_some j js h k = grind (arith, right, wrong)

told_every : {P : ℕ → Type 0} {v w : Verdict} (j : ℕ) (js : List ℕ) → Told (P j) v → Told ((k : ℕ) → Among k js → P k) w → Told ((k : ℕ) → Among k (j ∷ js) → P k) (lesser v w)
told_every j js h k = grind (arith, right, wrong)

abbrev pub UntilAmong : (ℕ → Type 0) → (ℕ → Type 0) → List ℕ → Type 0
UntilAmong P Q js = (k : ℕ) × Among k js × Q k × ((j : ℕ) → j < k → Among j js → P j)

told_until : {P Q : ℕ → Type 0} {v w x : Verdict} (j : ℕ) (js : List ℕ) → Rising (j ∷ js) → Told (P j) v → Told (Q j) w → Told (UntilAmong P Q js) x
    → Told (UntilAmong P Q (j ∷ js)) (greater w (lesser v x))
told_until j js rising holds (right y) rest = grind (arith, right)
told_until {P} j js rising (right x) (wrong g) (right u) = grind (arith, right)
told_until {P} {Q} j js rising (right x) (wrong g) (wrong h) = grind (arith, wrong)
told_until {P} {Q} j js rising (wrong f) (wrong g) rest = grind (arith, wrong)

pub some_told : (P : ℕ → Type 0) (p : ℕ → Verdict) (js : List ℕ) → ((j : ℕ) → Among j js → Told (P j) (p j))
    → Told ((j : ℕ) × Among j js × P j) (foldr (λ j x. greater (p j) x) False js)
some_told P p [] each = wrong (λ found. found.1)
some_told P p (j ∷ js) each = grind (arith, told_some, some_told P p js (λ k m. each k (inr m)))

pub every_told : (P : ℕ → Type 0) (p : ℕ → Verdict) (js : List ℕ) → ((j : ℕ) → Among j js → Told (P j) (p j))
    → Told ((j : ℕ) → Among j js → P j) (foldr (λ j x. lesser (p j) x) True js)
every_told P p [] each = right (λ j m. absurd m)
every_told P p (j ∷ js) each = grind (arith, told_every, every_told P p js (λ k m. each k (inr m)))

pub until_told : (P Q : ℕ → Type 0) (p q : ℕ → Verdict) (js : List ℕ) → Rising js → ((j : ℕ) → Among j js → Told (P j) (p j)) → ((j : ℕ) → Among j js → Told (Q j) (q j))
    → Told (UntilAmong P Q js) (foldr (λ j x. greater (q j) (lesser (p j) x)) False js)
until_told P Q p q [] rising each_p each_q = wrong (λ u. u.1)
until_told P Q p q (j ∷ js) rising each_p each_q = grind (arith, told_until, until_told P Q p q js rising.1 (λ k m. each_p k (inr m)) (λ k m. each_q k (inr m)))
