-- The states of a window, told by its moments. Assumes nothing.
use Rattle.std.specs.Prelude.{◌≡◌, ℕ, ◌<◌, ◌≤◌, ◌⊎◌, List, [], ◌∷◌}
use Rattle.parts.specs.declared.kinds.Window.{Window}
use Rattle.runs.specs.Moments.{Belongs}
use Rattle.runs.specs.Runs.{State}
use Rattle.runs.specs.declared.shape.Mark.{Mark}

-- some moment of the window, seen from the run's first state, belongs to state j
pub record Visits (mark : Mark) (w : Window) (run : List State) (j : ℕ) : Type 0 where
  pub moment : ℕ
  pub from : w.first ≤ moment
  pub upto : moment ≤ w.last
  pub belongs : Belongs mark run 0 moment j

abbrev pub Among : ℕ → List ℕ → Type 0
Among j [] = ⊥
Among j (k ∷ ks) = (j ≡ k) ⊎ Among j ks

-- each number is below all that follow it
abbrev pub Rising : List ℕ → Type 0
Rising [] = Unit {0}
Rising (j ∷ js) = ((k : ℕ) → Among k js → j < k) × Rising js

-- js are the states that the window visits, each once, in order
pub record InOrder (mark : Mark) (w : Window) (run : List State) (js : List ℕ) : Type 0 where
  pub rising : Rising js
  pub each : (j : ℕ) → Among j js → Visits mark w run j
  pub all : (j : ℕ) → Visits mark w run j → Among j js
