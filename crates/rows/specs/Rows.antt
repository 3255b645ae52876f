-- How states lie in rows of cells: each row is a stay and then the values. Assumes nothing.
use Rattle.std.specs.Prelude.{◌≡◌, ℕ, zero, suc, ◌+◌, List, [], ◌∷◌, ◌++◌, length, take, drop, ℤ, pos, unsigned_abs, refl}
use Rattle.std.proofs.Common.{sym, ap, ◌∙◌, arith}
use Rattle.std.proofs.lemmas.List.{append_assoc, append-nil}
use Rattle.runs.specs.Feeding.{state_of}
use Rattle.runs.specs.Offers.{Offered}
use Rattle.runs.specs.Runs.{State}
use Rattle.runs.specs.declared.shape.Shape.{Shape}
use Rattle.stores.specs.Cells.{need_of}
use Rattle.stores.specs.Coding.{Coding}
use Rattle.stores.proofs.LawfulStates.{lawful_width, stay_itself}

-- the largest magnitude of a value in rows
abbrev pub row_largest : ℕ
row_largest = 1000000000

-- the cells of some states: the stay and then the values of each
abbrev pub rows_of : List State → List ℤ
rows_of [] = []
rows_of (s ∷ ss) = (pos s.stay ∷ s.values) ++ rows_of ss

abbrev pub row_state : List ℤ → State
row_state [] = record { stay = 0; values = [] }
row_state (c ∷ cs) = record { stay = unsigned_abs c; values = cs }

-- the states of the first rows, each of a stay and so many values
abbrev pub row_states : ℕ → ℕ → List ℤ → List State
row_states width zero cells = []
row_states width (suc n) cells = row_state (take (width + 1) cells) ∷ row_states width n (drop (width + 1) cells)

pub length_row_states : (width n : ℕ) (cells : List ℤ) → length (row_states width n cells) ≡ n
length_row_states width zero cells = refl
length_row_states width (suc n) cells = ap suc (length_row_states width n (drop (width + 1) cells))

-- the cells of one state more
pub rows_of_more : (ss : List State) (s : State) → rows_of (ss ++ (s ∷ [])) ≡ rows_of ss ++ (pos s.stay ∷ s.values)
rows_of_more [] s = append-nil (pos s.stay ∷ s.values)
rows_of_more (t ∷ ss) s =
    ap (λ cs. (pos t.stay ∷ t.values) ++ cs) (rows_of_more ss s) ∙ sym (append_assoc (pos t.stay ∷ t.values) (rows_of ss) (pos s.stay ∷ s.values))

abbrev pub row_coding : Coding
row_coding = record {
  largest = row_largest;
  cells = λ shape. rows_of;
  added = λ shape ss o. o.stay ∷ o.values;
  needs = λ shape ss o. shape.width + 1;
  states = λ shape. row_states shape.width;
  none = λ shape. refl;
  more = λ shape ss o lawful. rows_of_more ss (state_of o) ∙ ap (λ z. rows_of ss ++ (z ∷ o.values)) (stay_itself shape row_largest o lawful);
  fits = λ shape ss o lawful. omega (arith, lawful_width shape row_largest o lawful);
  some = λ shape ss o. omega arith;
  counted = λ shape. length_row_states shape.width;
}

-- every lawful state needs a row
abbrev pub row_need : Shape → Offered → ℕ
row_need shape = need_of shape row_largest (λ o. shape.width + 1)
