-- Which state stands in which row, and that one row more is one state more. Assumes nothing.
use Rattle.std.proofs.Common.{◌≡◌, ℕ, zero, suc, ◌+◌, ◌*◌, ◌<◌, ◌≤◌, true, List, [], ◌∷◌, ◌++◌, length, get_or, take, drop, ℤ, pos, nat_abs, Some, None, ap, ◌∙◌, mul-le-mul_right, suc-mul, add_comm, zero-mul, add-one, arith}
use Rattle.std.specs.List.{slice_get}
use Rattle.std.proofs.lemmas.List.{drop-append-le, drop-drop, drop_more, get_or-drop, get_or-take, length-append, length-drop, length-take, nil_from_length, take_all, take-append-le}
use Rattle.std.proofs.lemmas.Option.{slice_get-get_or, slice_get_past}
use Rattle.runs.specs.Runs.{State, stay_at, value_at}
use Rattle.runs.specs.declared.shape.Shape.{Shape}
use Rattle.stores.specs.Cells.{are_lawful}
use Rattle.rows.specs.Rows.{row_state, row_states, rows_of}

nth_row_states : (width n : ℕ) (cells : List ℤ) (i : ℕ) → i < n → slice_get (row_states width n cells) i ≡ Some (row_state (take (width + 1) (drop (i * (width + 1)) cells)))
nth_row_states width zero cells i h = absurd (omega arith)
nth_row_states width (suc n) cells zero h = rw zero-mul
nth_row_states width (suc n) cells (suc i) h =
    nth_row_states width n (drop (width + 1) cells) i (omega arith) ∙ simp (drop-drop, suc-mul, add_comm)

-- the row from a cell on
row_state_lem : (width at : ℕ) (cells : List ℤ) → at < length cells → row_state (take (width + 1) (drop at cells)) ≡ record { stay = nat_abs (get_or cells at (pos 0)); values = take width (drop (at + 1) cells) }
row_state_lem width at cells h = rw (drop_more cells at (pos 0), add-one width)

module _ (width n : ℕ) (cells : List ℤ) (rows : length cells ≡ n * (width + 1)) where
  pub row_fits : (i : ℕ) → i < n → i * (width + 1) + (width + 1) ≤ length cells
  row_fits i there = omega (arith, mul-le-mul_right {m = suc i} {n = n} (width + 1) there, suc-mul i (width + 1))

  nth_row : (i : ℕ) → i < n → slice_get (row_states width n cells) i ≡ Some (record { stay = nat_abs (get_or cells (i * (width + 1)) (pos 0)); values = take width (drop (i * (width + 1) + 1) cells) })
  nth_row i there = nth_row_states width n cells i there ∙ ap Some (row_state_lem width (i * (width + 1)) cells (omega (arith, row_fits i there)))

  pub row_stay : (i : ℕ) → i < n → stay_at (row_states width n cells) i ≡ Some (nat_abs (get_or cells (i * (width + 1)) (pos 0)))
  row_stay i there = rw (nth_row i there)

  pub row_value : (i v : ℕ) → i < n → v < width → value_at (row_states width n cells) i v ≡ Some (get_or cells (i * (width + 1) + 1 + v) (pos 0))
  row_value i v there named =
      let at = i * (width + 1) in
      let inside : v < length (take width (drop (at + 1) cells)) = simp (length-take, length-drop) (omega (arith, row_fits i there)) in
      rw (nth_row i there) (slice_get-get_or _ v (pos 0) inside ∙ ap Some (rw (get_or-take, get_or-drop)))

-- beyond the width a state has no value, whatever the cells tell
pub value_past : (width n : ℕ) (cells : List ℤ) (i v : ℕ) → i < n → width ≤ v → value_at (row_states width n cells) i v ≡ None
value_past width n cells i v there past = grind (arith, nth_row_states, slice_get_past, length-take)

-- each lawful state fills one row of cells
pub length_rows_of : (shape : Shape) (largest : ℕ) (ss : List State) → are_lawful shape largest ss ≡ true → length (rows_of ss) ≡ length ss * (shape.width + 1)
length_rows_of shape largest [] e = omega arith
length_rows_of shape largest (s ∷ ss) e = grind (arith, length-append, length_rows_of shape largest ss)

-- one row more is one state more
row_states_suc : (width n : ℕ) (cells row : List ℤ) → length cells ≡ n * (width + 1) → length row ≡ width + 1 → row_states width (suc n) (cells ++ row) ≡ row_states width n cells ++ (row_state row ∷ [])
row_states_suc width zero cells row long one =
    let none = nil_from_length cells (long ∙ zero-mul (width + 1)) in
    let whole : length row ≤ width + 1 = omega arith in
    rw (none, take_all)
row_states_suc width (suc n) cells row long one =
    let rest : length cells ≡ n * (width + 1) + (width + 1) = long ∙ suc-mul n (width + 1) in
    let enough : width + 1 ≤ length cells = omega arith in
    let shorter : length (drop (width + 1) cells) ≡ n * (width + 1) = simp length-drop (omega arith) in
    rw (take-append-le, drop-append-le) (ap (λ ss. row_state (take (width + 1) cells) ∷ ss) (row_states_suc width n (drop (width + 1) cells) row shorter one))

pub row_states_more : (width n : ℕ) (cells row : List ℤ) → length cells ≡ n * (width + 1) → length row ≡ width + 1 → row_states width (n + 1) (cells ++ row) ≡ row_states width n cells ++ (row_state row ∷ [])
row_states_more width n cells row long one = rw (add-one n) (row_states_suc width n cells row long one)
