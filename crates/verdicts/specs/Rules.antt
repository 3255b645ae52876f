-- The rules of measures over a window, of F, G and U: what the visited states say, and whether the window is whole. Assumes nothing.
use Rattle.std.specs.Prelude.{ℕ, zero, suc, Bool, cond, List, [], ◌∷◌, map, length, take, ℤ, Some, None, Option, slice_index_or}
use mathlib.Core.List.{foldr}
use Rattle.std.specs.Option.{option_map}
use Rattle.parts.specs.declared.kinds.Statistic.{Statistic}
use Rattle.runs.specs.Runs.{State}
use Rattle.verdicts.specs.Arithmetic.{of_many}
use Rattle.verdicts.specs.Tables.{greater, lesser}
use Rattle.verdicts.specs.Verdicts.{both}
use Rattle.verdicts.specs.declared.verdict.Verdict.{Verdict}
use Rattle.verdicts.specs.declared.verdict.Verdict.TheVariants.{False, True, Undecided}

abbrev pub least : List Verdict → Verdict
least vs = foldr lesser True vs

abbrev pub greatest : List Verdict → Verdict
greatest vs = foldr greater False vs

-- the numbers below n
abbrev pub below : ℕ → List ℕ
below zero = []
below (suc n) = 0 ∷ map suc (below n)

-- some numbers, unknown where one of them is
abbrev pub all_known : List (Option ℤ) → Option (List ℤ)
all_known xs = foldr (both ◌∷◌) (Some []) xs

-- A measure over a window joins its argument over the visited states, and is unknown if its window is not whole.
abbrev pub statistic_rule : Statistic → (List State → Option ℤ) → Bool → List (List State) → Option ℤ
statistic_rule s m whole visited = cond whole (option_map (of_many s) (all_known (map m visited))) None

-- F takes the greater over the visited states there are, and undecided too if its window is not whole.
abbrev pub eventually_rule : (List State → Verdict) → Bool → List (List State) → Verdict
eventually_rule p whole visited = greater (greatest (map p visited)) (cond whole False Undecided)

-- G takes the lesser likewise.
abbrev pub always_rule : (List State → Verdict) → Bool → List (List State) → Verdict
always_rule p whole visited = lesser (least (map p visited)) (cond whole True Undecided)

-- the lesser of q at the visited state k and p at those before it
abbrev pub until_at : (List State → Verdict) → (List State → Verdict) → List (List State) → ℕ → Verdict
until_at p q visited k = lesser (q (slice_index_or visited k [])) (least (map p (take k visited)))

-- U takes the greatest of those; if the window is not whole, the lesser of undecided and p at every visited state joins in.
abbrev pub until_rule : (List State → Verdict) → (List State → Verdict) → Bool → List (List State) → Verdict
until_rule p q whole visited =
    greater (greatest (map (until_at p q visited) (below (length visited)))) (cond whole False (lesser Undecided (least (map p visited))))
