-- How a kind of recorder lays states in cells, and the laws of that. Assumes nothing.
use Rattle.std.specs.Prelude.{◌≡◌, ℕ, ◌≤◌, List, [], ◌∷◌, ◌++◌, length, ℤ, None}
use Rattle.runs.specs.Feeding.{state_of, unlawful}
use Rattle.runs.specs.Offers.{Offered}
use Rattle.runs.specs.Runs.{State}
use Rattle.runs.specs.declared.shape.Shape.{Shape}

-- how states lie in cells, with what has to be true of that
pub record Coding : Type 0 where
  -- the largest magnitude of a value
  pub largest : ℕ
  -- the cells of some states
  pub cells : Shape → List State → List ℤ
  -- the cells of one state more behind some states, and how many a lawful one needs
  pub added : Shape → List State → Offered → List ℤ
  pub needs : Shape → List State → Offered → ℕ
  -- the first so many states that cells tell, read back from them
  pub states : Shape → ℕ → List ℤ → List State
  -- no state fills a cell
  pub none : (shape : Shape) → cells shape [] ≡ []
  -- a lawful state more fills the cells added, behind those of the others
  pub more : (shape : Shape) (ss : List State) (o : Offered) → unlawful shape largest o ≡ None → cells shape (ss ++ (state_of o ∷ [])) ≡ cells shape ss ++ added shape ss o
  -- the cells added are as many as it needs
  pub fits : (shape : Shape) (ss : List State) (o : Offered) → unlawful shape largest o ≡ None → length (added shape ss o) ≡ needs shape ss o
  -- a state needs one cell at least
  pub some : (shape : Shape) (ss : List State) (o : Offered) → 1 ≤ needs shape ss o
  -- as many states are told as are asked for
  pub counted : (shape : Shape) (n : ℕ) (cells : List ℤ) → length (states shape n cells) ≡ n
