-- Numbers that are known and the only ones: of computations, and along some states. Assumes nothing.
use Rattle.std.proofs.Common.{◌≡◌, ℕ, List, [], ◌∷◌, ℤ, Some, Option, refl, inl, inr, arith}
use mathlib.Core.List.{foldr}
use Rattle.std.specs.Option.{option_map}
use Rattle.verdicts.specs.Truth.{Pairwise}
use Rattle.verdicts.specs.Verdicts.{both}
use Rattle.verdicts.specs.Windows.{Among}

-- The value of a measure, with the reason that it is the only one.
pub record Only (P : ℤ → Type 0) (found : Option ℤ) : Type 0 where
  pub number : ℤ
  pub known : found ≡ Some number
  pub is : P number
  pub only : (other : ℤ) → P other → other ≡ number

pub only_mapped : (f : ℤ → ℤ) (P : ℤ → Type 0) (x : Option ℤ) → Only P x → Only (λ z. (a : ℤ) × P a × (z ≡ f a)) (option_map f x)
only_mapped f P x found = grind arith

pub only_both : (f : ℤ → ℤ → ℤ) (P Q : ℤ → Type 0) (x y : Option ℤ) → Only P x → Only Q y → Only (λ z. (a : ℤ) × (b : ℤ) × P a × Q b × (z ≡ f a b)) (both f x y)
only_both f P Q x y left right' = grind arith

-- the values at some states
pub record OnlyAll (P : ℕ → ℤ → Type 0) (js : List ℕ) (found : Option (List ℤ)) : Type 0 where
  pub numbers : List ℤ
  pub known : found ≡ Some numbers
  pub is : Pairwise P js numbers
  pub only : (others : List ℤ) → Pairwise P js others → others ≡ numbers

only_cons : (P : ℕ → ℤ → Type 0) (j : ℕ) (js : List ℕ) (x : ℤ) (xs : List ℤ) → ((y : ℤ) → P j y → y ≡ x) → ((ys : List ℤ) → Pairwise P js ys → ys ≡ xs)
    → (ys : List ℤ) → Pairwise P (j ∷ js) ys → ys ≡ x ∷ xs
only_cons P j js x xs first rest ys h = grind arith

only_none : (P : ℕ → ℤ → Type 0) (ys : List ℤ) → Pairwise P [] ys → ys ≡ []
only_none P ys h = grind arith

pub all_told : (P : ℕ → ℤ → Type 0) (f : ℕ → Option ℤ) (js : List ℕ) → ((j : ℕ) → Among j js → Only (P j) (f j)) → OnlyAll P js (foldr (λ j xs. both ◌∷◌ (f j) xs) (Some []) js)
all_told P f [] each = record { numbers = []; known = refl; is = tt; only = only_none P }
all_told P f (j ∷ js) each =
    let first = each j (inl refl) in
    let rest = all_told P f js (λ k m. each k (inr m)) in
    record {
      numbers = first.number ∷ rest.numbers;
      known = rw (first.known, rest.known) refl;
      is = (first.is, rest.is);
      only = only_cons P j js first.number rest.numbers first.only rest.only;
    }
