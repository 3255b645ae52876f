-- A decided verdict and a known number stay, whatever states follow and whether or not the run is then closed. Assumes nothing.
use Rattle.std.proofs.Common.{◌≡◌, ℕ, zero, suc, ◌-◌, ◌≤◌, Bool, true, false, cond, List, [], ◌∷◌, ◌++◌, drop, ℤ, Some, None, Option, refl, ◌∙◌, arith}
use Rattle.std.proofs.lemmas.Bool.{false≢true}
use Rattle.parts.specs.Formulas.{Measure, numeral, variable, unary, binary, over, Property, compare, prefixed, joined}
use Rattle.parts.specs.Limits.{lawful, lawful_measure, lawful_window}
use Rattle.parts.specs.declared.kinds.Comparator.{Comparator}
use Rattle.parts.specs.declared.kinds.Connective.TheVariants.{And, Or, Implies, Iff, Until}
use Rattle.parts.specs.declared.kinds.Prefix.TheVariants.{Not, Next, Eventually, Always}
use Rattle.parts.specs.declared.kinds.Quantity.TheVariants.{Value, Change}
use Rattle.parts.specs.declared.kinds.Window.{Window}
use Rattle.runs.specs.Runs.{State, endures, value_at}
use Rattle.runs.specs.declared.shape.Mark.{Mark}
use Rattle.verdicts.proofs.LawfulFormulas.{binary_parts, compare_parts, joined_parts, over_parts, prefixed_parts, unary_parts, window_order}
use Rattle.verdicts.proofs.OwnedMoments.{within_order}
use Rattle.verdicts.specs.Arithmetic.{of_many, of_one, of_two}
use Rattle.verdicts.specs.Laws.{NumbersStay, VerdictsStay}
use Rattle.verdicts.specs.Tours.{tour_of, tour, tour_at, within}
use Rattle.verdicts.specs.Verdicts.{always_step, collect, eventually_step, further, rises, until_step, value, verdict}
use Rattle.verdicts.specs.declared.verdict.Verdict.{Verdict}
use Rattle.verdicts.specs.declared.verdict.Verdict.TheVariants.{False, True, Undecided}
use Rattle.verdicts.proofs.KeptAnswers.{Keeps, both_keeps, compared_keeps, greater_keeps, implies_keeps, lesser_keeps, mapped_keeps, same, swap_keeps, yet}

-- A tour keeps what it says, if its joining does.
toured_keeps : {A : Type 0} (none done : A) (begun ended : Bool) (join join' : A → A) {x x' : A} → ((y y' : A) → Keeps none y y' → Keeps none (join y) (join' y')) → Keeps none x x'
    → Keeps none (tour_at begun ended join done x) (tour_at begun ended join' done x')
toured_keeps none done true true join join' joins h = joins done done same
toured_keeps none done true false join join' {x} {x'} joins h = joins x x' h
toured_keeps none done false true join join' joins h = same
toured_keeps none done false false join join' joins h = h

-- at the last state so far: what has begun and ended there is not moved by what follows
last_keeps : {A : Type 0} (none done : A) (begun ended begun' ended' : Bool) (join join' : A → A) (x : A) → ((y y' : A) → Keeps none y y' → Keeps none (join y) (join' y'))
    → (ended ≡ true → begun ≡ true) → (begun ≡ true → begun' ≡ true) → (ended ≡ true → ended' ≡ true)
    → Keeps none (tour_at begun ended join done none) (tour_at begun' ended' join' done x)
last_keeps none done true true begun' ended' join join' x joins order begins ends = rw (begins refl, ends refl) (joins done done same)
last_keeps none done true false begun' ended' join join' x joins order begins ends = rw (begins refl) (joins none (cond ended' done x) yet)
last_keeps none done false true begun' ended' join join' x joins order begins ends = absurd (false≢true (order refl))
last_keeps none done false false begun' ended' join join' x joins order begins ends = yet

-- On a run whose last state does not yet endure, a moment within a state stays within it.
within_stays : (mark later : Mark) (t : ℕ) (s : State) (r : List State) → endures mark ≡ false → within mark t s [] ≡ true → within later t s r ≡ true
within_stays mark later t s r lasts h = grind arith

-- where another state follows, the marks make no difference
within_middle : (mark later : Mark) (t : ℕ) (s n : State) (r more : List State) → within mark t s (n ∷ r) ≡ within later t s (n ∷ more)
within_middle mark later t s n r more = grind arith

module _ {A : Type 0} (none done : A) (join join' : List State → A → A) (mark later : Mark) (more : List State)
    (open' : endures mark ≡ false)
    (joins : (t : List State) (x x' : A) → Keeps none x x' → Keeps none (join t x) (join' (t ++ more) x')) where
  tour_keeps : (a b : ℕ) → a ≤ b → (run : List State) → Keeps none (tour join done none mark a b run) (tour join' done none later a b (run ++ more))
  tour_keeps a b h [] = yet
  tour_keeps a b h (s ∷ []) = grind (arith, last_keeps, within_order, within_stays)
  tour_keeps a b h (s ∷ n ∷ r) =
      rw (within_middle mark later a s n r (r ++ more), within_middle mark later b s n r (r ++ more))
      (toured_keeps none done (within later a s (n ∷ r ++ more)) (within later b s (n ∷ r ++ more)) (join (s ∷ n ∷ r)) (join' (s ∷ n ∷ r ++ more)) (joins (s ∷ n ∷ r))
      (tour_keeps (a - s.stay) (b - s.stay) (omega arith) (n ∷ r)))

module _ (width largest : ℕ) (mark later : Mark) (more : List State) (open' : endures mark ≡ false) where
  over_keeps : {A : Type 0} (none done : A) (join join' : List State → A → A) → ((t : List State) (x x' : A) → Keeps none x x' → Keeps none (join t x) (join' (t ++ more) x'))
      → (w : Window) → lawful_window w ≡ true → (run : List State) → Keeps none (tour_of join done none mark w run) (tour_of join' done none later w (run ++ more))
  over_keeps none done join join' joins w h run = grind (arith, tour_keeps, window_order)

  variable_keeps : (v : ℕ) (run : List State) → Keeps None (value_at run 0 v) (value_at (run ++ more) 0 v)
  variable_keeps v [] = yet
  variable_keeps v (s ∷ r) = same

  value_keeps : (inside : Bool) (m : Measure) → lawful_measure width largest inside m ≡ true → (run : List State) → Keeps None (value m mark run) (value m later (run ++ more))
  value_keeps inside (numeral n) h run = same
  value_keeps inside (variable v) h run = variable_keeps v run
  value_keeps inside (unary u m) h run = mapped_keeps (of_one u) (value_keeps inside m (unary_parts width largest inside u m h).0 run)
  value_keeps inside (binary b m n) h run =
      let parts = binary_parts width largest inside b m n h in both_keeps (of_two b) (value_keeps inside m parts.0 run) (value_keeps inside n parts.1 run)
  value_keeps inside (over s w m) h run =
      let parts = over_parts width largest inside s w m h in
      mapped_keeps (of_many s) (over_keeps None (Some []) (collect (value m mark)) (collect (value m later)) (λ t x x' k. both_keeps ◌∷◌ (value_keeps true m parts.2 t) k) w parts.1 run)

  further_keeps : (said said' : List State → Verdict) → ((t : List State) → Keeps Undecided (said t) (said' (t ++ more))) → (run : List State)
      → Keeps Undecided (further mark said run) (further later said' (run ++ more))
  further_keeps said said' keeps [] = rw open' yet
  further_keeps said said' keeps (s ∷ r) = keeps (s ∷ r)

  rises_keeps : (c : Comparator) (m m' n n' : List State → Option ℤ) → ((t : List State) → Keeps None (m t) (m' (t ++ more))) → ((t : List State) → Keeps None (n t) (n' (t ++ more)))
      → (run : List State) → Keeps Undecided (rises c m n mark run) (rises c m' n' later (run ++ more))
  rises_keeps c m m' n n' h k [] = rw open' yet
  rises_keeps c m m' n n' h k (s ∷ r) = grind (arith, further_keeps, compared_keeps, both_keeps, mapped_keeps)

  drop_keeps : (said said' : List State → Verdict) → ((t : List State) → Keeps Undecided (said t) (said' (t ++ more))) → (k : ℕ) (run : List State)
      → Keeps Undecided (further mark said (drop k run)) (further later said' (drop k (run ++ more)))
  drop_keeps said said' keeps zero run = further_keeps said said' keeps run
  drop_keeps said said' keeps (suc k) [] = rw open' yet
  drop_keeps said said' keeps (suc k) (s ∷ r) = drop_keeps said said' keeps k r

  verdict_keeps : (p : Property) → lawful width largest p ≡ true → (run : List State) → Keeps Undecided (verdict p mark run) (verdict p later (run ++ more))
  verdict_keeps (compare c Value m n) h run = grind (arith, compare_parts, compared_keeps, value_keeps)
  verdict_keeps (compare c Change m n) h run = grind (arith, compare_parts, rises_keeps, value_keeps)
  verdict_keeps (prefixed Not p) h run = swap_keeps (verdict_keeps p (prefixed_parts width largest Not p h).1 run)
  verdict_keeps (prefixed (Next k) p) h run = grind (arith, drop_keeps, prefixed_parts, verdict_keeps p (prefixed_parts width largest (Next k) p h).1)
  verdict_keeps (prefixed (Eventually w) p) h run =
      let parts = prefixed_parts width largest (Eventually w) p h in over_keeps Undecided False (eventually_step (verdict p mark)) (eventually_step (verdict p later)) (λ t x x' k. greater_keeps (verdict_keeps p parts.1 t) k) w parts.0 run
  verdict_keeps (prefixed (Always w) p) h run =
      let parts = prefixed_parts width largest (Always w) p h in over_keeps Undecided True (always_step (verdict p mark)) (always_step (verdict p later)) (λ t x x' k. lesser_keeps (verdict_keeps p parts.1 t) k) w parts.0 run
  verdict_keeps (joined And p q) h run = let parts = joined_parts width largest And p q h in lesser_keeps (verdict_keeps p parts.1 run) (verdict_keeps q parts.2 run)
  verdict_keeps (joined Or p q) h run = let parts = joined_parts width largest Or p q h in greater_keeps (verdict_keeps p parts.1 run) (verdict_keeps q parts.2 run)
  verdict_keeps (joined Implies p q) h run = let parts = joined_parts width largest Implies p q h in implies_keeps (verdict_keeps p parts.1 run) (verdict_keeps q parts.2 run)
  verdict_keeps (joined Iff p q) h run =
      let parts = joined_parts width largest Iff p q h in
      let kept = verdict_keeps p parts.1 run in
      let kept' = verdict_keeps q parts.2 run in
      lesser_keeps (implies_keeps kept kept') (implies_keeps kept' kept)
  verdict_keeps (joined (Until w) p q) h run =
      let parts = joined_parts width largest (Until w) p q h in
      over_keeps Undecided False (until_step (verdict p mark) (verdict q mark)) (until_step (verdict p later) (verdict q later)) (λ t x x' k. greater_keeps (verdict_keeps q parts.2 t) (lesser_keeps (verdict_keeps p parts.1 t) k)) w parts.0 run

stays : {A : Type 0} {none x x' : A} → Keeps none x x' → (x ≡ none → ⊥) → x' ≡ x
stays h k = grind arith

pub verdicts_stay : VerdictsStay
verdicts_stay width largest p h mark later open' run more = stays (verdict_keeps width largest mark later more open' p h run)

pub numbers_stay : NumbersStay
numbers_stay width largest inside m h mark later open' run more z known =
    stays (value_keeps width largest mark later more open' inside m h run) (λ e. cc) ∙ known
