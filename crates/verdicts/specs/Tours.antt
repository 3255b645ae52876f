-- The tour of a window along a run, told from the state that the window is seen from on. Assumes nothing.
use Rattle.std.specs.Prelude.{ℕ, ◌-◌, Bool, true, false, cond, ◌&&◌, ◌||◌, List, [], ◌∷◌, nat_le}
use Rattle.parts.specs.declared.kinds.Window.{Window}
use Rattle.runs.specs.Runs.{State, endures}
use Rattle.runs.specs.declared.shape.Mark.{Mark}

abbrev pub is_last : List State → Bool
is_last [] = true
is_last (s ∷ r) = false

-- moment t, counted from the start of s, which r follows, is not beyond s; where the last state endures it never is
abbrev pub within : Mark → ℕ → State → List State → Bool
within mark t s r = nat_le t s.stay || (endures mark && is_last r)

-- What a tour says at a state: it joins the state where that is not before the window, and goes on with `rest` where the window does not end there.
abbrev pub tour_at : {A : Type 0} → Bool → Bool → (A → A) → A → A → A
tour_at begun ended join done rest = let next = cond ended done rest in cond begun (join next) next

-- Joins each state that has a moment of those from a to b, seen from itself on, once and in order.
-- Ends with `done` where moment b has a state, and with `cut` where the run stops before.
abbrev pub tour : {A : Type 0} → (List State → A → A) → A → A → Mark → ℕ → ℕ → List State → A
tour join done cut mark a b [] = cut
tour join done cut mark a b (s ∷ r) =
    tour_at (within mark a s r) (within mark b s r) (join (s ∷ r)) done (tour join done cut mark (a - s.stay) (b - s.stay) r)

abbrev pub tour_of : {A : Type 0} → (List State → A → A) → A → A → Mark → Window → List State → A
tour_of join done cut mark w run = tour join done cut mark w.first w.last run

-- the visited states, each seen from itself on
abbrev pub visited : Mark → Window → List State → List (List State)
visited mark w run = tour_of ◌∷◌ [] [] mark w run

-- whether moment b has a state
abbrev pub whole : Mark → Window → List State → Bool
whole mark w run = tour_of (λ t told. told) true false mark w run
