-- What the definitions say of run A, whose longest stay is 2: stays 2, 2, 1 and `level` 9, 7, 4; and of cases that tell a slip from the rule. All by computation. Assumes nothing.
use Rattle.std.proofs.Common.{◌≡◌, ℕ, List, [], ◌∷◌, ℤ, pos, negsuc, Some, None, refl}
use Rattle.parts.specs.Formulas.{Measure, numeral, variable, unary, binary, over, Property, compare, prefixed, joined}
use Rattle.parts.specs.declared.kinds.Binary.TheVariants.{Add, Subtract, Multiply}
use Rattle.parts.specs.declared.kinds.Comparator.{Comparator}
use Rattle.parts.specs.declared.kinds.Comparator.TheVariants.{Less, AtMost, Equal, AtLeast, Greater}
use Rattle.parts.specs.declared.kinds.Connective.TheVariants.{Or, Until}
use Rattle.parts.specs.declared.kinds.Prefix.TheVariants.{Not, Next, Eventually, Always}
use Rattle.parts.specs.declared.kinds.Quantity.TheVariants.{Value, Change}
use Rattle.parts.specs.declared.kinds.Statistic.TheVariants.{Min, Max, Sum, Count}
use Rattle.parts.specs.declared.kinds.Unary.TheVariants.{Abs, Sign}
use Rattle.parts.specs.declared.kinds.Window.{Window}
use Rattle.runs.specs.Runs.{State}
use Rattle.runs.specs.declared.shape.Mark.TheVariants.{Open, Closed}
use Rattle.verdicts.specs.Reach.{reach_of}
use Rattle.verdicts.specs.Verdicts.{value, verdict}
use Rattle.verdicts.specs.declared.verdict.Verdict.TheVariants.{False, True, Undecided}

abbrev state : ℕ → ℤ → State
state stay level = record { stay = stay; values = level ∷ [] }

abbrev run_a : List State
run_a = state 2 (pos 9) ∷ state 2 (pos 7) ∷ state 1 (pos 4) ∷ []

abbrev from : ℕ → ℕ → Window
from a b = record { first = a; last = b }

abbrev level : Comparator → ℕ → Property
level c n = compare c Value (variable 0) (numeral (pos n))

abbrev sum : ℕ → ℕ → Measure
sum a b = over Sum (from a b) (variable 0)

-- the worked cases
eventually_too_early : verdict (prefixed (Eventually (from 2 4)) (level Less 5)) Open run_a ≡ False
eventually_too_early = refl

eventually_in_time : verdict (prefixed (Eventually (from 2 5)) (level Less 5)) Open run_a ≡ True
eventually_in_time = refl

always_open : verdict (prefixed (Always (from 0 6)) (level Greater 3)) Open run_a ≡ Undecided
always_open = refl

always_closed : verdict (prefixed (Always (from 0 6)) (level Greater 3)) Closed run_a ≡ True
always_closed = refl

falls : verdict (compare Equal Change (variable 0) (numeral (negsuc 0))) Open run_a ≡ True
falls = refl

next_open : verdict (prefixed (Next 3) (level Less 5)) Open run_a ≡ Undecided
next_open = refl

next_closed : verdict (prefixed (Next 3) (level Less 5)) Closed run_a ≡ False
next_closed = refl

next_reach : reach_of 2 (prefixed (Next 3) (level Less 5)) ≡ 7
next_reach = refl

until_in_time : verdict (joined (Until (from 0 5)) (level Greater 6) (level Less 5)) Open run_a ≡ True
until_in_time = refl

sum_of_all : verdict (compare Equal Value (sum 0 5) (numeral (pos 20))) Open run_a ≡ True
sum_of_all = refl

-- an inner window is counted from the start of the visited state, and not from the outer moment
nested_in_time : verdict (prefixed (Eventually (from 0 3)) (prefixed (Eventually (from 0 3)) (level Less 5))) Open run_a ≡ True
nested_in_time = refl

nested_too_early : verdict (prefixed (Eventually (from 0 2)) (prefixed (Eventually (from 0 2)) (level Less 5))) Open run_a ≡ False
nested_too_early = refl

-- a window that is cut is not false, nor is an until
cut_eventually : verdict (prefixed (Eventually (from 0 6)) (level Less 4)) Open run_a ≡ Undecided
cut_eventually = refl

cut_until : verdict (joined (Until (from 0 6)) (level Greater 3) (level Less 4)) Open run_a ≡ Undecided
cut_until = refl

-- where p fails at a visited state, no later state saves the until
cut_until_lost : verdict (joined (Until (from 0 6)) (level Greater 4) (level Less 4)) Open run_a ≡ False
cut_until_lost = refl

-- an unknown number is not false, whichever way it is compared, nor lost in a product with 0
unknown_at_most : verdict (compare AtMost Value (sum 0 6) (numeral (pos 100))) Open run_a ≡ Undecided
unknown_at_most = refl

unknown_greater : verdict (compare Greater Value (sum 0 6) (numeral (pos 100))) Open run_a ≡ Undecided
unknown_greater = refl

unknown_at_the_right : verdict (compare Less Value (numeral (pos 0)) (sum 0 6)) Open run_a ≡ Undecided
unknown_at_the_right = refl

unknown_times_none : value (binary Multiply (numeral (pos 0)) (sum 0 6)) Open run_a ≡ None
unknown_times_none = refl

-- a window that no state has reached visits none, and the states before it are not visited
before_the_window : verdict (prefixed (Eventually (from 3 4)) (level Greater 8)) Open run_a ≡ False
before_the_window = refl

beyond_the_run : verdict (prefixed (Always (from 6 7)) (level Less 5)) Open run_a ≡ Undecided
beyond_the_run = refl

beyond_the_run_closed : verdict (prefixed (Always (from 6 7)) (level Less 5)) Closed run_a ≡ True
beyond_the_run_closed = refl

-- the greater of undecided and true is true
undecided_or_true : verdict (joined Or (prefixed (Next 3) (level Less 5)) (level Greater 8)) Open run_a ≡ True
undecided_or_true = refl

cut_but_true : verdict (prefixed (Eventually (from 0 9)) (level Less 5)) Open run_a ≡ True
cut_but_true = refl

-- tick 2 belongs to state 0 and tick 3 to state 1
boundary_tick : value (sum 2 2) Open run_a ≡ Some (pos 9)
boundary_tick = refl

tick_after_boundary : value (sum 3 3) Open run_a ≡ Some (pos 7)
tick_after_boundary = refl

-- a state is joined once, and not once for each of its ticks
joined_once : value (sum 1 4) Open run_a ≡ Some (pos 16)
joined_once = refl

counted_once : value (over Count (from 0 4) (variable 0)) Open run_a ≡ Some (pos 2)
counted_once = refl

-- on a closed run the last state has every moment beyond, and is still joined once
enduring_sum : value (sum 0 100) Closed run_a ≡ Some (pos 20)
enduring_sum = refl

-- the next state's value less the value here, against the number for each tick of the stay here
change_per_tick : verdict (compare Less Change (variable 0) (numeral (pos 0))) Open run_a ≡ True
change_per_tick = refl

last_change_open : verdict (compare Less Change (variable 0) (numeral (pos 0))) Open (state 1 (pos 4) ∷ []) ≡ Undecided
last_change_open = refl

last_change_closed : verdict (prefixed Not (compare Less Change (variable 0) (numeral (pos 0)))) Closed (state 1 (pos 4) ∷ []) ≡ True
last_change_closed = refl

-- what a window adds to the reach, and what a change does
eventually_reach : reach_of 2 (prefixed (Eventually (from 2 5)) (level Less 5)) ≡ 6
eventually_reach = refl

always_reach : reach_of 2 (prefixed (Always (from 0 6)) (level Greater 3)) ≡ 7
always_reach = refl

change_reach : reach_of 2 (compare Equal Change (variable 0) (numeral (negsuc 0))) ≡ 3
change_reach = refl

until_reach : reach_of 2 (joined (Until (from 0 5)) (compare Less Change (variable 0) (sum 0 3)) (level Less 5)) ≡ 11
until_reach = refl

-- comparing and computing, which the two meanings share
least : value (over Min (from 0 5) (variable 0)) Open run_a ≡ Some (pos 4)
least = refl

greatest : value (over Max (from 0 5) (variable 0)) Open run_a ≡ Some (pos 9)
greatest = refl

added : value (binary Add (variable 0) (numeral (negsuc 9))) Open run_a ≡ Some (negsuc 0)
added = refl

subtracted : value (binary Subtract (variable 0) (numeral (pos 10))) Open run_a ≡ Some (negsuc 0)
subtracted = refl

multiplied : value (binary Multiply (variable 0) (numeral (negsuc 1))) Open run_a ≡ Some (negsuc 17)
multiplied = refl

magnitude : value (unary Abs (numeral (negsuc 4))) Open run_a ≡ Some (pos 5)
magnitude = refl

negative_sign : value (unary Sign (numeral (negsuc 4))) Open run_a ≡ Some (negsuc 0)
negative_sign = refl

positive_sign : value (unary Sign (variable 0)) Open run_a ≡ Some (pos 1)
positive_sign = refl

no_sign : value (unary Sign (numeral (pos 0))) Open run_a ≡ Some (pos 0)
no_sign = refl

at_most_equal : verdict (level AtMost 9) Open run_a ≡ True
at_most_equal = refl

not_less_than_equal : verdict (level Less 9) Open run_a ≡ False
not_less_than_equal = refl

at_least_equal : verdict (level AtLeast 9) Open run_a ≡ True
at_least_equal = refl

not_greater_than_equal : verdict (level Greater 9) Open run_a ≡ False
not_greater_than_equal = refl

equal : verdict (level Equal 9) Open run_a ≡ True
equal = refl

not_equal : verdict (level Equal 8) Open run_a ≡ False
not_equal = refl

-- What the laws ask is needed. Where a window ends before it begins, closing the run turns a verdict.
backwards_open : verdict (prefixed (Eventually (from 4 2)) (level Less 5)) Open (state 3 (pos 4) ∷ []) ≡ False
backwards_open = refl

backwards_closed : verdict (prefixed (Eventually (from 4 2)) (level Less 5)) Closed (state 3 (pos 4) ∷ []) ≡ True
backwards_closed = refl

-- with a window in a window, the reach is met and the verdict undecided
nested_window_reach : reach_of 2 (compare Less Value (over Sum (from 0 1) (sum 0 5)) (numeral (pos 5))) ≡ 2
nested_window_reach = refl

nested_window : verdict (compare Less Value (over Sum (from 0 1) (sum 0 5)) (numeral (pos 5))) Open (state 2 (pos 4) ∷ []) ≡ Undecided
nested_window = refl

-- so it is with a stay of 4, where the longest is 1
long_stay_reach : reach_of 1 (prefixed (Next 3) (level Less 5)) ≡ 4
long_stay_reach = refl

long_stay : verdict (prefixed (Next 3) (level Less 5)) Open (state 4 (pos 4) ∷ []) ≡ Undecided
long_stay = refl

-- what is said of a closed run says nothing of a longer one
closed_run : verdict (prefixed (Next 1) (level Less 5)) Closed (state 1 (pos 9) ∷ []) ≡ False
closed_run = refl

longer_run : verdict (prefixed (Next 1) (level Less 5)) Closed (state 1 (pos 9) ∷ state 1 (pos 4) ∷ []) ≡ True
longer_run = refl
