-- Where states begin, and that cells after them change nothing of what they tell. Assumes nothing.
use Rattle.std.proofs.Common.{◌≡◌, ℕ, zero, suc, ◌+◌, ◌-◌, ◌<◌, ◌≤◌, List, ◌++◌, map, length, get_or, take, drop, replicate, ℤ, pos, nat_abs, sym, refl, ap, ◌∙◌, suc-add, zero-add, arith}
use Rattle.std.specs.List.{range_with_len}
use Rattle.std.proofs.lemmas.List.FromFn.{fill_by_all, get_or-map-range_with_len, length-map-range_with_len}
use Rattle.std.proofs.lemmas.List.{drop-append-le, get_or_append_left, get_or-replicate, get_or-take, length-drop, length-take-le, take-append-le}
use Rattle.changes.specs.Encoding.{changed_at, changes_at, place_of, state_at, states_told, value_before, values_before}

rises_by : (cells : List ℤ) (n more : ℕ) → place_of cells n ≤ place_of cells (more + n)
rises_by cells n zero = rw zero-add (omega arith)
rises_by cells n (suc more) = rw suc-add (omega (arith, rises_by cells n more))

pub place_rises : (cells : List ℤ) (n m : ℕ) → n ≤ m → place_of cells n ≤ place_of cells m
place_rises cells n m h = let e : m ≡ (m - n) + n = omega arith in rw e (rises_by cells n (m - n))

-- a state that is told is told within the cells
pub place_fits : (cells : List ℤ) (n m used : ℕ) → place_of cells m ≡ used → n < m → place_of cells n + 2 + changed_at cells (place_of cells n) ≤ used
place_fits cells n m used whole there = omega (arith, place_rises cells (suc n) m there)

-- the same where the walk stands, if no more states are told
pub walk_fits : (cells : List ℤ) (n m at : ℕ) → place_of cells m ≡ length cells → at ≡ place_of cells n → n < m → at + 2 + changed_at cells at ≤ length cells
walk_fits cells n m at whole here there = rw here (place_fits cells n m (length cells) whole there)

same_counted : {X : Type 0} (f g : ℕ → X) (n : ℕ) → ((i : ℕ) → i < n → f i ≡ g i) → map f (range_with_len 0 n) ≡ map g (range_with_len 0 n)
same_counted f g n each = fill_by_all g (map f (range_with_len 0 n)) n (f 0) (length-map-range_with_len f 0 n) (λ i h. get_or-map-range_with_len f 0 n i i (f 0) h (zero-add i) ∙ each i h)

-- before state 0 each value is 0
pub values_start : (width : ℕ) (cells : List ℤ) → width ≤ 16 → take width (replicate 16 (pos 0)) ≡ values_before width cells 0
values_start width cells few =
    fill_by_all (λ v. pos 0) (take width (replicate 16 (pos 0))) width (pos 0) (length-take-le width (replicate 16 (pos 0)) few)
    (λ v h. get_or-take width (replicate 16 (pos 0)) v (pos 0) h ∙ get_or-replicate 16 v (pos 0) (pos 0) (omega arith))

pub first_value : (width v n : ℕ) (cells values : List ℤ) → v < width → take width values ≡ values_before width cells n → get_or values v (pos 0) ≡ value_before cells v n
first_value width v n cells values named are =
    sym (get_or-take width values v (pos 0) named) ∙ ap (λ xs. get_or xs v (pos 0)) are ∙ get_or-map-range_with_len (λ u. value_before cells u n) 0 width v v (pos 0) named (zero-add v)

-- cells that follow
module _ (cells more : List ℤ) where
  changed_kept : (at : ℕ) → at + 2 ≤ length cells → changed_at (cells ++ more) at ≡ changed_at cells at
  changed_kept at fits = ap nat_abs (get_or_append_left cells more (pos 0) (at + 1) (omega arith))

  changes_kept : (at : ℕ) → at + 2 + changed_at cells at ≤ length cells → changes_at (cells ++ more) at ≡ changes_at cells at
  changes_kept at fits =
      let header : at + 2 ≤ length cells = omega arith in
      let enough : changed_at cells at ≤ length (drop (at + 2) cells) = rw length-drop (omega arith) in
      rw (changed_kept at header, drop-append-le, take-append-le)

  pub place_kept : (n : ℕ) → place_of cells n ≤ length cells → place_of (cells ++ more) n ≡ place_of cells n
  place_kept zero fits = refl
  place_kept (suc n) fits = rw (place_kept n (omega arith), changed_kept (place_of cells n) (omega arith))

  pub value_kept : (v n : ℕ) → place_of cells n ≤ length cells → value_before (cells ++ more) v n ≡ value_before cells v n
  value_kept v zero fits = refl
  value_kept v (suc n) fits = rw (place_kept n (omega arith), changes_kept (place_of cells n) fits, value_kept v n (omega arith))

  pub values_kept : (width n : ℕ) → place_of cells n ≤ length cells → values_before width (cells ++ more) n ≡ values_before width cells n
  values_kept width n fits = same_counted (λ v. value_before (cells ++ more) v n) (λ v. value_before cells v n) width (λ v h. value_kept v n fits)

  state_kept : (width n : ℕ) → place_of cells (suc n) ≤ length cells → state_at width (cells ++ more) n ≡ state_at width cells n
  state_kept width n fits =
      rw (values_kept width (suc n) fits, place_kept n (omega arith), get_or_append_left cells more (pos 0) (place_of cells n) (omega arith))

  pub states_kept : (width n : ℕ) → place_of cells n ≤ length cells → states_told width n (cells ++ more) ≡ states_told width n cells
  states_kept width n fits =
      same_counted (state_at width (cells ++ more)) (state_at width cells) n (λ i h. state_kept width i (omega (arith, place_rises cells (suc i) n h)))
