-- What holds on a closed run, told by moments. A run is told from the state that the formula is asked at on. Assumes nothing.
use Rattle.std.specs.Prelude.{◌≡◌, ℕ, ◌<◌, true, ◌⊎◌, List, [], ◌∷◌, length, drop, ℤ, pos, ◌-ℤ◌, ◌*ℤ◌, Some}
use Rattle.parts.specs.Formulas.{Measure, numeral, variable, unary, binary, over, Property, compare, prefixed, joined}
use Rattle.parts.specs.declared.kinds.Connective.TheVariants.{And, Or, Implies, Iff, Until}
use Rattle.parts.specs.declared.kinds.Prefix.TheVariants.{Not, Next, Eventually, Always}
use Rattle.parts.specs.declared.kinds.Quantity.TheVariants.{Value, Change}
use Rattle.runs.specs.Runs.{State, stay_at, value_at}
use Rattle.runs.specs.declared.shape.Mark.TheVariants.{Closed}
use Rattle.verdicts.specs.Arithmetic.{compares, of_many, of_one, of_two}
use Rattle.verdicts.specs.Windows.{InOrder, Visits}

-- R relates the js to the xs one by one
abbrev pub Pairwise : (ℕ → ℤ → Type 0) → List ℕ → List ℤ → Type 0
Pairwise R [] [] = Unit {0}
Pairwise R [] (x ∷ xs) = ⊥
Pairwise R (j ∷ js) [] = ⊥
Pairwise R (j ∷ js) (x ∷ xs) = R j x × Pairwise R js xs

-- z is the value of a measure; that over a window joins the values at the states that the window visits, each once, in order
abbrev pub Number : Measure → List State → ℤ → Type 0
Number (numeral n) run z = z ≡ n
Number (variable v) run z = value_at run 0 v ≡ Some z
Number (unary u m) run z = (x : ℤ) × Number m run x × (z ≡ of_one u x)
Number (binary b m n) run z = (x : ℤ) × (y : ℤ) × Number m run x × Number n run y × (z ≡ of_two b x y)
Number (over s w m) run z = (js : List ℕ) × (xs : List ℤ) × InOrder Closed w run js × Pairwise (λ j x. Number m (drop j run) x) js xs × (z ≡ of_many s xs)

abbrev pub Holds : Property → List State → Type 0
Holds (compare c Value m n) run = (x : ℤ) × (y : ℤ) × Number m run x × Number n run y × (compares c x y ≡ true)
Holds (compare c Change m n) run =
    (1 < length run)
    × (next : ℤ) × (here : ℤ) × (y : ℤ) × (stay : ℕ)
    × Number m (drop 1 run) next × Number m run here × Number n run y × (stay_at run 0 ≡ Some stay)
    × (compares c (next -ℤ here) (y *ℤ pos stay) ≡ true)
Holds (prefixed Not p) run = Holds p run → ⊥
Holds (prefixed (Next k) p) run = (k < length run) × Holds p (drop k run)
Holds (prefixed (Eventually w) p) run = (j : ℕ) × Visits Closed w run j × Holds p (drop j run)
Holds (prefixed (Always w) p) run = (j : ℕ) → Visits Closed w run j → Holds p (drop j run)
Holds (joined And p q) run = Holds p run × Holds q run
Holds (joined Or p q) run = Holds p run ⊎ Holds q run
Holds (joined Implies p q) run = (Holds p run → ⊥) ⊎ Holds q run
Holds (joined Iff p q) run = ((Holds p run → ⊥) ⊎ Holds q run) × ((Holds q run → ⊥) ⊎ Holds p run)
Holds (joined (Until w) p q) run =
    (k : ℕ) × Visits Closed w run k × Holds q (drop k run) × ((j : ℕ) → j < k → Visits Closed w run j → Holds p (drop j run))
