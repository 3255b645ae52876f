-- How the states of a run lie in cells of changes. Assumes nothing.
use Rattle.std.specs.Prelude.{◌≡◌, ◌+◌, List, [], ◌∷◌, ◌++◌, length, replicate, ℤ, pos}
use Rattle.std.proofs.Common.{sym, refl, ap, ◌∙◌, arith}
use Rattle.std.proofs.lemmas.List.FromFn.{length-map-range_with_len}
use Rattle.std.proofs.lemmas.List.{append_assoc, append-nil}
use Rattle.runs.specs.Feeding.{state_of}
use Rattle.runs.specs.Runs.{State}
use Rattle.runs.specs.declared.shape.Shape.{Shape}
use Rattle.stores.specs.Coding.{Coding}
use Rattle.stores.proofs.LawfulStates.{stay_itself}
use Rattle.changes.specs.Encoding.{change_largest, changes, encoded, state_at, states_told}

-- the values after some states, and the cells of these, where the variables have the given values before them
abbrev pub last_after : List ℤ → List State → List ℤ
last_after olds [] = olds
last_after olds (s ∷ ss) = last_after s.values ss

abbrev pub cells_from : List ℤ → List State → List ℤ
cells_from olds [] = []
cells_from olds (s ∷ ss) = encoded (pos s.stay) s.values olds ++ cells_from s.values ss

-- before state 0 every variable is 0
abbrev pub zeros : Shape → List ℤ
zeros shape = replicate shape.width (pos 0)

-- the values of the last state of a run
abbrev pub last_of : Shape → List State → List ℤ
last_of shape ss = last_after (zeros shape) ss

-- one state more
pub cells_from_more : (olds : List ℤ) (ss : List State) (s : State) → cells_from olds (ss ++ (s ∷ [])) ≡ cells_from olds ss ++ encoded (pos s.stay) s.values (last_after olds ss)
cells_from_more olds [] s = append-nil (encoded (pos s.stay) s.values olds)
cells_from_more olds (t ∷ ss) s =
    ap (λ cs. encoded (pos t.stay) t.values olds ++ cs) (cells_from_more t.values ss s) ∙ sym (append_assoc (encoded (pos t.stay) t.values olds) (cells_from t.values ss) _)

-- a lawful state needs a cell for its stay, one for the number of changes, and one for each change
abbrev pub change_coding : Coding
change_coding = record {
  largest = change_largest;
  cells = λ shape ss. cells_from (zeros shape) ss;
  added = λ shape ss o. encoded o.stay o.values (last_of shape ss);
  needs = λ shape ss o. 2 + length (changes 0 o.values (last_of shape ss));
  states = λ shape. states_told shape.width;
  none = λ shape. refl;
  more = λ shape ss o lawful. cells_from_more (zeros shape) ss (state_of o) ∙ ap (λ z. cells_from (zeros shape) ss ++ encoded z o.values (last_of shape ss)) (stay_itself shape change_largest o lawful);
  fits = λ shape ss o lawful. omega arith;
  some = λ shape ss o. omega arith;
  counted = λ shape n cells. length-map-range_with_len (state_at shape.width cells) 0 n;
}
