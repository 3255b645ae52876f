-- What a formula says of any run, open or closed: true, false or undecided. A run is told from the state that the formula is judged at on. Assumes nothing.
use Rattle.std.specs.Prelude.{cond, List, [], ◌∷◌, drop, ℤ, pos, ◌-ℤ◌, ◌*ℤ◌, Some, None, Option}
use Rattle.std.specs.Option.{option_map}
use Rattle.parts.specs.Formulas.{Measure, numeral, variable, unary, binary, over, Property, compare, prefixed, joined}
use Rattle.parts.specs.declared.kinds.Comparator.{Comparator}
use Rattle.parts.specs.declared.kinds.Connective.TheVariants.{And, Or, Implies, Iff, Until}
use Rattle.parts.specs.declared.kinds.Prefix.TheVariants.{Not, Next, Eventually, Always}
use Rattle.parts.specs.declared.kinds.Quantity.TheVariants.{Value, Change}
use Rattle.runs.specs.Runs.{State, endures, value_at}
use Rattle.runs.specs.declared.shape.Mark.{Mark}
use Rattle.verdicts.specs.Arithmetic.{compares, of_many, of_one, of_two}
use Rattle.verdicts.specs.Tables.{decided, greater, iff, implies, lesser, swap}
use Rattle.verdicts.specs.Tours.{tour_of}
use Rattle.verdicts.specs.declared.verdict.Verdict.{Verdict}
use Rattle.verdicts.specs.declared.verdict.Verdict.TheVariants.{False, True, Undecided}

-- a function of two numbers, unknown where one of them is
abbrev pub both : {A B C : Type 0} → (A → B → C) → Option A → Option B → Option C
both f None y = None
both f (Some x) None = None
both f (Some x) (Some y) = Some (f x y)

-- what a visited state adds to the numbers of a window
abbrev pub collect : (List State → Option ℤ) → List State → Option (List ℤ) → Option (List ℤ)
collect m t rest = both ◌∷◌ (m t) rest

-- The value of a measure, unknown where a window in it is not whole.
abbrev pub value : Measure → Mark → List State → Option ℤ
value (numeral n) mark run = Some n
value (variable v) mark run = value_at run 0 v
value (unary u m) mark run = option_map (of_one u) (value m mark run)
value (binary b m n) mark run = both (of_two b) (value m mark run) (value n mark run)
value (over s w m) mark run = option_map (of_many s) (tour_of (collect (value m mark)) (Some []) None mark w run)

abbrev pub compared : Comparator → Option ℤ → Option ℤ → Verdict
compared c None y = Undecided
compared c (Some x) None = Undecided
compared c (Some x) (Some y) = decided (compares c x y)

-- what is said where a state further on is not there: false on a run whose last state endures, else undecided
abbrev pub missing : Mark → Verdict
missing mark = cond (endures mark) False Undecided

abbrev pub further : Mark → (List State → Verdict) → List State → Verdict
further mark said [] = missing mark
further mark said (s ∷ r) = said (s ∷ r)

-- m at the next state t less m here, at s, against n for each tick of the stay here
abbrev pub rise : Comparator → (List State → Option ℤ) → (List State → Option ℤ) → State → List State → List State → Verdict
rise c m n s r t = compared c (both ◌-ℤ◌ (m t) (m (s ∷ r))) (option_map (λ x. x *ℤ pos s.stay) (n (s ∷ r)))

abbrev pub rises : Comparator → (List State → Option ℤ) → (List State → Option ℤ) → Mark → List State → Verdict
rises c m n mark [] = missing mark
rises c m n mark (s ∷ r) = further mark (rise c m n s r) r

-- what a visited state adds to F p, to G p and to p U q, before what the states after it say
abbrev pub eventually_step : (List State → Verdict) → List State → Verdict → Verdict
eventually_step p t rest = greater (p t) rest

abbrev pub always_step : (List State → Verdict) → List State → Verdict → Verdict
always_step p t rest = lesser (p t) rest

abbrev pub until_step : (List State → Verdict) → (List State → Verdict) → List State → Verdict → Verdict
until_step p q t rest = greater (q t) (lesser (p t) rest)

abbrev pub verdict : Property → Mark → List State → Verdict
verdict (compare c Value m n) mark run = compared c (value m mark run) (value n mark run)
verdict (compare c Change m n) mark run = rises c (value m mark) (value n mark) mark run
verdict (prefixed Not p) mark run = swap (verdict p mark run)
verdict (prefixed (Next k) p) mark run = further mark (verdict p mark) (drop k run)
verdict (prefixed (Eventually w) p) mark run = tour_of (eventually_step (verdict p mark)) False Undecided mark w run
verdict (prefixed (Always w) p) mark run = tour_of (always_step (verdict p mark)) True Undecided mark w run
verdict (joined And p q) mark run = lesser (verdict p mark run) (verdict q mark run)
verdict (joined Or p q) mark run = greater (verdict p mark run) (verdict q mark run)
verdict (joined Implies p q) mark run = implies (verdict p mark run) (verdict q mark run)
verdict (joined Iff p q) mark run = iff (verdict p mark run) (verdict q mark run)
verdict (joined (Until w) p q) mark run = tour_of (until_step (verdict p mark) (verdict q mark)) False Undecided mark w run
