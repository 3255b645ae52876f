-- What is told of each state. Assumes nothing.
use Rattle.std.proofs.Common.{◌≡◌, ℕ, suc, ◌+◌, ◌<◌, ◌≤◌, List, length, get_or, ℤ, pos, nat_abs, Some, None, ap, ◌∙◌, zero-add, add-one, arith}
use Rattle.std.specs.List.{slice_get}
use Rattle.std.specs.Option.{option_map}
use Rattle.std.proofs.lemmas.List.FromFn.{get_or-map-range_with_len, length-map-range_with_len}
use Rattle.std.proofs.lemmas.Option.{slice_get-get_or, slice_get_past}
use Rattle.runs.specs.Runs.{stay_at, value_at, value_in}
use Rattle.changes.specs.Encoding.{place_of, state_at, states_told, value_before, values_before}

module _ (width n : ℕ) (cells : List ℤ) where
  pub length_told : length (states_told width n cells) ≡ n
  length_told = length-map-range_with_len (state_at width cells) 0 n

  told_state : (i : ℕ) → i < n → slice_get (states_told width n cells) i ≡ Some (state_at width cells i)
  told_state i there =
      let d = state_at width cells 0 in
      slice_get-get_or (states_told width n cells) i d (omega (arith, length_told)) ∙ ap Some (get_or-map-range_with_len (state_at width cells) 0 n i i d there (zero-add i))

  pub told_stay : (i : ℕ) → i < n → stay_at (states_told width n cells) i ≡ Some (nat_abs (get_or cells (place_of cells i) (pos 0)))
  told_stay i there = ap (option_map (λ s. s.stay)) (told_state i there)

  pub told_value : (i v : ℕ) → i < n → v < width → value_at (states_told width n cells) i v ≡ Some (value_before cells v (i + 1))
  told_value i v there named =
      let value : ℕ → ℤ = λ u. value_before cells u (suc i) in
      let inside : v < length (values_before width cells (suc i)) = omega (arith, length-map-range_with_len value 0 width) in
      rw (add-one i) (ap (λ s. value_in s v) (told_state i there) ∙ slice_get-get_or (values_before width cells (suc i)) v (pos 0) inside ∙ ap Some (get_or-map-range_with_len value 0 width v v (pos 0) named (zero-add v)))

  -- beyond the width a state has no value, whatever the cells tell
  pub told_no_value : (i v : ℕ) → i < n → width ≤ v → value_at (states_told width n cells) i v ≡ None
  told_no_value i v there past = grind (arith, told_state, slice_get_past, length-map-range_with_len)
