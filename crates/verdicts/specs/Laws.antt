-- The laws of verdicts, each for every lawful formula. Assumes nothing.
use Rattle.std.specs.Prelude.{◌≡◌, ℕ, ◌+◌, ◌-◌, ◌<◌, ◌≤◌, min, max, Bool, true, false, ◌⊎◌, ◌↔◌, List, ◌++◌, map, length, drop, ℤ, Some, ◌≢◌, unsigned_abs}
use Rattle.std.specs.List.{AllByRecursion}
use Rattle.parts.specs.Bounds.{bound_of, most_bound, most_states}
use Rattle.parts.specs.Formulas.{Measure, Property, joined, over, prefixed}
use Rattle.parts.specs.Limits.{lawful, lawful_measure, most_numeral}
use Rattle.parts.specs.declared.kinds.Connective.TheVariants.{Until}
use Rattle.parts.specs.declared.kinds.Prefix.TheVariants.{Always, Eventually}
use Rattle.parts.specs.declared.kinds.Statistic.{Statistic}
use Rattle.parts.specs.declared.kinds.Window.{Window}
use Rattle.runs.specs.Calls.{Step, after_steps}
use Rattle.runs.specs.Moments.{Belongs}
use Rattle.runs.specs.Runs.{Meaning, Run, State, endures, ticks}
use Rattle.runs.specs.declared.shape.Mark.{Mark}
use Rattle.runs.specs.declared.shape.Shape.{Shape}
use Rattle.verdicts.specs.Begins.{BeginsWith, Fits}
use Rattle.verdicts.specs.Reach.{reach_of}
use Rattle.verdicts.specs.Rules.{always_rule, eventually_rule, statistic_rule, until_rule}
use Rattle.verdicts.specs.Tables.{greater, lesser, rank, swap}
use Rattle.verdicts.specs.Tours.{visited, whole}
use Rattle.verdicts.specs.Truth.{Holds}
use Rattle.verdicts.specs.Verdicts.{value, verdict}
use Rattle.verdicts.specs.Windows.{InOrder}
use Rattle.verdicts.specs.declared.verdict.Verdict.{Verdict}
use Rattle.verdicts.specs.declared.verdict.Verdict.TheVariants.{False, True, Undecided}

-- and, or and not are the lesser, the greater and the opposite in the order of verdicts.
pub record ByRank (v w : Verdict) : Type 0 where
  pub and : rank (lesser v w) ≡ min (rank v) (rank w)
  pub or : rank (greater v w) ≡ max (rank v) (rank w)
  pub not : rank (swap v) ≡ 2 - rank v

abbrev pub TablesByRank : Type 0
TablesByRank = (v w : Verdict) → ByRank v w

-- While the last state does not endure: a verdict that is decided, and a number that is known, stay when states follow and when the run is closed.
-- `inside` says whether a measure stands inside a window, where no other may.
abbrev pub VerdictsStay : Type 0
VerdictsStay =
    (width largest : ℕ) (p : Property) → lawful width largest p ≡ true
    → (mark later : Mark) → endures mark ≡ false → (run more : List State)
    → (verdict p mark run ≢ Undecided) → verdict p later (run ++ more) ≡ verdict p mark run

abbrev pub NumbersStay : Type 0
NumbersStay =
    (width largest : ℕ) (inside : Bool) (m : Measure) → lawful_measure width largest inside m ≡ true
    → (mark later : Mark) → endures mark ≡ false → (run more : List State)
    → (z : ℤ) → value m mark run ≡ Some z → value m later (run ++ more) ≡ Some z

-- a verdict tells what holds, where it is true or false
pub record Tells (p : Property) (run : List State) (v : Verdict) : Type 0 where
  pub right : v ≡ True → Holds p run
  pub wrong : v ≡ False → Holds p run → ⊥

-- On a closed run with a state the verdict is the two-valued one.
abbrev pub TwoValued : Type 0
TwoValued =
    (shape : Shape) (largest : ℕ) (p : Property) → lawful shape.width largest p ≡ true
    → (mark : Mark) → endures mark ≡ true → (run : List State) → AllByRecursion (Fits shape) run → 0 < length run
    → Tells p run (verdict p mark run) × (verdict p mark run ≢ Undecided)

-- On an open run a true or false is the two-valued verdict of every closed run that begins with the kept states.
abbrev pub Foretells : Type 0
Foretells =
    (largest : ℕ) (kept : Run) (p : Property) → lawful kept.shape.width largest p ≡ true
    → endures kept.mark ≡ false → AllByRecursion (Fits kept.shape) kept.states → 0 < length kept.states
    → (closed : Run) → BeginsWith kept closed → Tells p closed.states (verdict p kept.mark kept.states)

-- Once the run is closed, or its stays add up to the reach, no verdict is undecided.
abbrev pub Settles : Type 0
Settles =
    (shape : Shape) (largest : ℕ) (p : Property) → lawful shape.width largest p ≡ true
    → (mark : Mark) (run : List State) → AllByRecursion (Fits shape) run → 0 < length run
    → (endures mark ≡ true) ⊎ (reach_of shape.longest p ≤ ticks run) → verdict p mark run ≢ Undecided

-- The moments that are counted from state i are those of the run without its first i states.
abbrev pub CountedFrom : Type 0
CountedFrom = (mark : Mark) (run : List State) (i t j : ℕ) → Belongs mark run i t (i + j) ↔ Belongs mark (drop i run) 0 t j

-- A tour visits the states to which a moment of the window belongs, each once, in order, on open and on closed runs.
abbrev pub VisitsByMoments : Type 0
VisitsByMoments =
    (mark : Mark) (w : Window) → w.first ≤ w.last → (run : List State) → AllByRecursion (λ s. 1 ≤ s.stay) run
    → (js : List ℕ) × InOrder mark w run js × (visited mark w run ≡ map (λ j. drop j run) js)

-- A window is whole exactly when its last moment has a state.
abbrev pub WholeByMoment : Type 0
WholeByMoment =
    (mark : Mark) (w : Window) (run : List State) → (whole mark w run ≡ true) ↔ ((j : ℕ) × Belongs mark run 0 w.last j)

-- On a run of at most 4,096 states whose values are within `largest`, a known number is within its bound, and so within 10^13.
abbrev pub NumbersBounded : Type 0
NumbersBounded =
    (width largest : ℕ) (inside : Bool) (m : Measure) → lawful_measure width largest inside m ≡ true → largest ≤ most_numeral
    → (mark : Mark) (run : List State) → length run ≤ most_states → AllByRecursion (λ s. AllByRecursion (λ v. unsigned_abs v ≤ largest) s.values) run
    → (z : ℤ) → value m mark run ≡ Some z → (unsigned_abs z ≤ bound_of largest m) × (bound_of largest m ≤ most_bound)

-- Measures over a window, F, G and U are as their rules say, over the visited states.
pub record ByRule (mark : Mark) (w : Window) (run : List State) (s : Statistic) (m : Measure) (p q : Property) : Type 0 where
  pub measure : value (over s w m) mark run ≡ statistic_rule s (value m mark) (whole mark w run) (visited mark w run)
  pub eventually : verdict (prefixed (Eventually w) p) mark run ≡ eventually_rule (verdict p mark) (whole mark w run) (visited mark w run)
  pub always : verdict (prefixed (Always w) p) mark run ≡ always_rule (verdict p mark) (whole mark w run) (visited mark w run)
  pub until : verdict (joined (Until w) p q) mark run ≡ until_rule (verdict p mark) (verdict q mark) (whole mark w run) (visited mark w run)

abbrev pub WindowsByRule : Type 0
WindowsByRule = (mark : Mark) (w : Window) (run : List State) (s : Statistic) (m : Measure) (p q : Property) → ByRule mark w run s m p q

-- Whatever feeds and closes follow, refused ones among them, a decided verdict stays, and every state that is kept still fits the shape.
abbrev pub VerdictsLast : Type 0
VerdictsLast =
    (width largest : ℕ) (p : Property) → lawful width largest p ≡ true
    → (most : ℕ) (m : Meaning) (steps : List Step) → (verdict p m.run.mark m.run.states ≢ Undecided)
    → verdict p (after_steps most steps m).run.mark (after_steps most steps m).run.states ≡ verdict p m.run.mark m.run.states

abbrev pub StatesFit : Type 0
StatesFit =
    (most : ℕ) (m : Meaning) → AllByRecursion (Fits m.run.shape) m.run.states
    → (steps : List Step) → AllByRecursion (Fits (after_steps most steps m).run.shape) (after_steps most steps m).run.states
