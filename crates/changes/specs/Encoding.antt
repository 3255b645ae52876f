-- How a state is told by what changes: its stay, the number of variables that change, and a cell for each of them. Assumes nothing.
use Rattle.std.specs.Prelude.{ℕ, zero, suc, ◌+◌, Bool, false, cond, List, [], ◌∷◌, ◌++◌, map, length, take, drop, ℤ, pos, negsuc, ◌+ℤ◌, ◌*ℤ◌, Some, None, Option, ◌==◌, slice_index_or, unsigned_abs}
use Rattle.std.specs.List.{fold, range_with_len}
use Rattle.std.specs.Int.{int_div_euclid, int_rem_euclid}
use Rattle.std.specs.Option.{option_to_list}
use Rattle.runs.specs.Runs.{State}

-- the largest magnitude of a value that a cell can tell beside its variable
abbrev pub change_largest : ℕ
change_largest = 100000000

-- a cell tells a variable and its new value, which floor division reads back
abbrev pub packed : ℤ → ℕ → ℤ
packed value variable = (value *ℤ pos 16) +ℤ pos variable

abbrev pub variable_of : ℤ → ℕ
variable_of cell = unsigned_abs (int_rem_euclid cell (pos 16))

abbrev pub value_of : ℤ → ℤ
value_of cell = int_div_euclid cell (pos 16)

abbrev pub same : ℤ → ℤ → Bool
same (pos a) (pos b) = a == b
same (pos a) (negsuc b) = false
same (negsuc a) (pos b) = false
same (negsuc a) (negsuc b) = a == b

-- the cell that tells a variable's new value, unless that is its old one
abbrev pub change_of : ℕ → ℤ → ℤ → Option ℤ
change_of v new old = cond (same new old) None (Some (packed new v))

-- the cells of those variables, from v on, whose values change
abbrev pub changes : ℕ → List ℤ → List ℤ → List ℤ
changes v [] olds = []
changes v (new ∷ news) [] = []
changes v (new ∷ news) (old ∷ olds) = option_to_list (change_of v new old) ++ changes (suc v) news olds

-- the cells of a state
abbrev pub encoded : ℤ → List ℤ → List ℤ → List ℤ
encoded stay news olds = stay ∷ pos (length (changes 0 news olds)) ∷ changes 0 news olds

-- how many changes the state at a cell has, and their cells
abbrev pub changed_at : List ℤ → ℕ → ℕ
changed_at cells at = unsigned_abs (slice_index_or cells (at + 1) (pos 0))

abbrev pub changes_at : List ℤ → ℕ → List ℤ
changes_at cells at = take (changed_at cells at) (drop (at + 2) cells)

-- the cell where state n begins
abbrev pub place_of : List ℤ → ℕ → ℕ
place_of cells zero = 0
place_of cells (suc n) = place_of cells n + 2 + changed_at cells (place_of cells n)

-- a variable's value once one change, and once some changes are made
abbrev pub changed_by : ℕ → ℤ → ℤ → ℤ
changed_by v cell value = cond (variable_of cell == v) (value_of cell) value

abbrev pub changed_to : ℕ → List ℤ → ℤ → ℤ
changed_to v cs value = fold (λ before cell. changed_by v cell before) value cs

-- a variable's value before state n: before state 0 each is 0
abbrev pub value_before : List ℤ → ℕ → ℕ → ℤ
value_before cells v zero = pos 0
value_before cells v (suc n) = changed_to v (changes_at cells (place_of cells n)) (value_before cells v n)

abbrev pub values_before : ℕ → List ℤ → ℕ → List ℤ
values_before width cells n = map (λ v. value_before cells v n) (range_with_len 0 width)

abbrev pub state_at : ℕ → List ℤ → ℕ → State
state_at width cells n = record { stay = unsigned_abs (slice_index_or cells (place_of cells n) (pos 0)); values = values_before width cells (suc n) }

-- the first n states
abbrev pub states_told : ℕ → ℕ → List ℤ → List State
states_told width n cells = map (state_at width cells) (range_with_len 0 n)
