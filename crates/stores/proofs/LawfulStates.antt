-- What a state that is not refused has. Assumes nothing.
use Rattle.std.proofs.Common.{◌≡◌, ℕ, zero, suc, ◌<◌, ◌≤◌, true, eqb, leb, List, [], ◌∷◌, ◌++◌, length, get_or, ℤ, pos, negsuc, nat_abs, None, refl, arith}
use Rattle.std.specs.Int.{is_in_range}
use Rattle.std.proofs.ByRecursion.{All-get_or}
use Rattle.std.proofs.lemmas.Bool.{and_from, and_parts, cases_Bool, eq-eqb, eqb-true, le-leb, leb-true}
use Rattle.std.proofs.lemmas.Bool.Decides.{nat_tests}
use Rattle.std.proofs.lemmas.List.Folds.{list_all-append}
use Rattle.std.proofs.lemmas.Option.{slice_get_past}
use Rattle.runs.specs.Feeding.{all_within, state_of, stay_within, unlawful}
use Rattle.runs.specs.Offers.{Offered}
use Rattle.runs.specs.Runs.{State, value_at}
use Rattle.runs.specs.declared.shape.Shape.{Shape}
use Rattle.stores.specs.Cells.{are_lawful, is_lawful, magnitudes_lawful}

stay_magnitude : (longest : ℕ) (stay : ℤ) → stay_within longest stay ≡ true → is_in_range 1 longest (nat_abs stay) ≡ true
stay_magnitude longest (pos n) e = e
stay_magnitude longest (negsuc n) e = cc

stay_positive : (longest : ℕ) (stay : ℤ) → stay_within longest stay ≡ true → pos (nat_abs stay) ≡ stay
stay_positive longest (pos n) e = refl
stay_positive longest (negsuc n) e = cc

pub magnitude_within : (largest : ℕ) (values : List ℤ) (v : ℕ) → all_within largest values ≡ true → v < length values → nat_abs (get_or values v (pos 0)) ≤ largest
magnitude_within largest values v within there = All-get_or (λ z. nat_abs z ≤ largest) values v (pos 0) there (magnitudes_lawful largest values within)

-- values of a smaller magnitude
pub within_more : (small large : ℕ) (values : List ℤ) → small ≤ large → all_within small values ≡ true → all_within large values ≡ true
within_more small large [] less within = refl
within_more small large (z ∷ zs) less within =
    let p = and_parts (leb (nat_abs z) small) (all_within small zs) within in
    let one : nat_abs z ≤ large = omega (arith, less, leb-true (nat_abs z) small p.0) in
    and_from (leb (nat_abs z) large) (all_within large zs) (le-leb (nat_abs z) large one) (within_more small large zs less p.1)

module _ (shape : Shape) (largest : ℕ) (o : Offered) (lawful : unlawful shape largest o ≡ None) where
  pub lawful_width : length o.values ≡ shape.width
  lawful_width = grind (arith, nat_tests, lawful)

  lawful_stay : stay_within shape.longest o.stay ≡ true
  lawful_stay = grind (arith, nat_tests, cases_Bool, lawful)

  pub lawful_values : all_within largest o.values ≡ true
  lawful_values = grind (arith, nat_tests, cases_Bool, lawful)

  pub stay_within_lem : nat_abs o.stay ≤ shape.longest
  stay_within_lem = leb-true _ _ (and_parts (leb 1 (nat_abs o.stay)) _ (stay_magnitude shape.longest o.stay lawful_stay)).1

  pub stay_itself : pos (nat_abs o.stay) ≡ o.stay
  stay_itself = stay_positive shape.longest o.stay lawful_stay

  pub offered_lawful : is_lawful shape largest (state_of o) ≡ true
  offered_lawful =
      and_from (is_in_range 1 shape.longest (nat_abs o.stay)) _ (stay_magnitude shape.longest o.stay lawful_stay)
      (and_from (eqb (length o.values) shape.width) (all_within largest o.values) (eq-eqb (length o.values) shape.width lawful_width) lawful_values)

pub lawful_more : (shape : Shape) (largest : ℕ) (ss : List State) (s : State) → are_lawful shape largest ss ≡ true → is_lawful shape largest s ≡ true → are_lawful shape largest (ss ++ (s ∷ [])) ≡ true
lawful_more shape largest ss s all one = rw (list_all-append (is_lawful shape largest) ss (s ∷ []), all, one) refl

-- a lawful state has no value beyond the width
pub no_value : (shape : Shape) (largest : ℕ) (ss : List State) (i v : ℕ) → are_lawful shape largest ss ≡ true → shape.width ≤ v → value_at ss i v ≡ None
no_value shape largest [] i v all past = refl
no_value shape largest (s ∷ ss) zero v all past =
    let one = and_parts (is_in_range 1 shape.longest s.stay) _ (and_parts (is_lawful shape largest s) (are_lawful shape largest ss) all).0 in
    let wide = eqb-true (length s.values) shape.width (and_parts (eqb (length s.values) shape.width) (all_within largest s.values) one.1).0 in
    slice_get_past s.values v (omega (arith, wide))
no_value shape largest (s ∷ ss) (suc i) v all past =
    no_value shape largest ss i v (and_parts (is_lawful shape largest s) (are_lawful shape largest ss) all).1 past
