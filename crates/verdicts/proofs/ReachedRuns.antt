-- Once a run is closed, or its stays add up to the reach of a formula, its verdict is decided. Assumes nothing.
use Rattle.std.proofs.Common.{◌≡◌, ℕ, zero, suc, ◌+◌, ◌-◌, ◌*◌, ◌<◌, ◌≤◌, max, Bool, true, false, List, [], ◌∷◌, length, drop, ℤ, pos, Some, None, Option, refl, inl, inr, suc-mul, arith}
use Rattle.std.specs.Option.{option_map}
use Rattle.std.specs.List.{AllByRecursion}
use Rattle.std.proofs.ByRecursion.{All-drop}
use Rattle.std.proofs.lemmas.Option.{slice_get-get_or}
use Rattle.std.proofs.lemmas.List.Sums.{sum_by-cons}
use Rattle.std.proofs.lemmas.Bool.{ltb-true}
use Rattle.parts.specs.Formulas.{Measure, numeral, variable, unary, binary, over, Property, compare, prefixed, joined}
use Rattle.parts.specs.Limits.{lawful, lawful_measure}
use Rattle.parts.specs.declared.kinds.Comparator.{Comparator}
use Rattle.parts.specs.declared.kinds.Connective.TheVariants.{And, Or, Implies, Iff, Until}
use Rattle.parts.specs.declared.kinds.Prefix.TheVariants.{Not, Next, Eventually, Always}
use Rattle.parts.specs.declared.kinds.Quantity.TheVariants.{Value, Change}
use Rattle.runs.specs.Runs.{State, ticks, value_at}
use Rattle.runs.specs.declared.shape.Mark.{Mark}
use Rattle.runs.specs.declared.shape.Shape.{Shape}
use Rattle.verdicts.proofs.ClosedRuns.{two_valued}
use Rattle.verdicts.proofs.LawfulFormulas.{binary_parts, compare_parts, joined_parts, over_parts, prefixed_parts, unary_parts}
use Rattle.verdicts.proofs.OwnedMoments.{not_within}
use Rattle.verdicts.specs.Arithmetic.{compares, of_many, of_one, of_two}
use Rattle.verdicts.specs.Begins.{Fits}
use Rattle.verdicts.specs.Laws.{Settles}
use Rattle.verdicts.specs.Reach.{measure_reach, reach_of}
use Rattle.verdicts.specs.Tables.{decided, greater, lesser, swap}
use Rattle.verdicts.specs.Tours.{tour, tour_at, within}
use Rattle.verdicts.specs.Verdicts.{always_step, both, collect, compared, eventually_step, further, rises, until_step, value, verdict}
use Rattle.verdicts.specs.declared.verdict.Verdict.{Verdict}
use Rattle.verdicts.specs.declared.verdict.Verdict.TheVariants.{False, True, Undecided}

data Known {A : Type 0} : Option A → Type 0 where
  known : (x : A) → Known (Some x)

known_mapped : {A B : Type 0} (f : A → B) {x : Option A} → Known x → Known (option_map f x)
known_mapped f (known x) = known (f x)

known_both : {A B C : Type 0} (f : A → B → C) {x : Option A} {y : Option B} → Known x → Known y → Known (both f x y)
known_both f (known x) (known y) = known (f x y)

data Settled : Verdict → Type 0 where
  as_false : Settled False
  as_true : Settled True

settled_compared : (c : Comparator) {x y : Option ℤ} → Known x → Known y → Settled (compared c x y)
settled_compared c (known x) (known y) = by_test (compares c x y)
  where
    by_test : (t : Bool) → Settled (decided t)
    by_test true = as_true
    by_test false = as_false

settled_swap : {v : Verdict} → Settled v → Settled (swap v)
settled_swap h = grind (arith, as_false, as_true)

settled_lesser : {v w : Verdict} → Settled v → Settled w → Settled (lesser v w)
settled_lesser h k = grind arith

settled_greater : {v w : Verdict} → Settled v → Settled w → Settled (greater v w)
settled_greater h k = grind arith

settled_decided : {v : Verdict} → Settled v → v ≡ Undecided → ⊥
settled_decided h e = grind arith

ticks_cons : (s : State) (r : List State) → ticks (s ∷ r) ≡ s.stay + ticks r
ticks_cons s r = sum_by-cons (λ (x : State). x.stay) s r

-- Where the ticks are more by b than the operands need, those of each visited state are enough, and the window is whole.
module _ {A : Type 0} (Q : A → Type 0) (F : State → Type 0) (join : List State → A → A) (done cut : A) (mark : Mark) (needed : ℕ) (some : 1 ≤ needed) (ends : Q done)
    (joins : (t : List State) → AllByRecursion F t → needed ≤ ticks t → (x : A) → Q x → Q (join t x)) where
  toured_reached : (begun ended : Bool) (t : List State) (x : A) → AllByRecursion F t → needed ≤ ticks t → (ended ≡ false → Q x) → Q (tour_at begun ended (join t) done x)
  toured_reached begun ended t x fits enough rest = grind arith

  tour_reached : (a b : ℕ) (run : List State) → AllByRecursion F run → needed + b ≤ ticks run → Q (tour join done cut mark a b run)
  tour_reached a b [] fits enough = absurd (omega arith)
  tour_reached a b (s ∷ r) fits enough =
      toured_reached (within mark a s r) (within mark b s r) (s ∷ r) _ fits (omega arith)
      (λ e. tour_reached (a - s.stay) (b - s.stay) r fits.1 (omega (arith, not_within mark b s r e, ticks_cons s r)))

reach_of_measure : (m : Measure) → 1 ≤ measure_reach m
reach_of_measure (numeral n) = omega arith
reach_of_measure (variable v) = omega arith
reach_of_measure (unary u m) = reach_of_measure m
reach_of_measure (binary b m n) = omega (arith, reach_of_measure m)
reach_of_measure (over s w m) = omega arith

reach_positive : (longest : ℕ) (p : Property) → 1 ≤ reach_of longest p
reach_positive longest (compare c q m n) = omega (arith, reach_of_measure m)
reach_positive longest (prefixed x p) = omega (arith, reach_positive longest p)
reach_positive longest (joined c p q) = omega (arith, reach_positive longest p)

module _ (shape : Shape) (largest : ℕ) (mark : Mark) where
  -- so many states last at most as often the longest stay
  ticks_dropped : (k : ℕ) (run : List State) → AllByRecursion (Fits shape) run → ticks run ≤ ticks (drop k run) + k * shape.longest
  ticks_dropped zero run fits = omega arith
  ticks_dropped (suc k) [] fits = omega arith
  ticks_dropped (suc k) (s ∷ r) fits = grind (arith, ticks_cons, suc-mul, ticks_dropped k r fits.1)

  -- inside a window measure stands no window
  windowless_reach : (m : Measure) → lawful_measure shape.width largest true m ≡ true → measure_reach m ≡ 1
  windowless_reach (numeral n) h = refl
  windowless_reach (variable v) h = refl
  windowless_reach (unary u m) h = windowless_reach m (unary_parts shape.width largest true u m h).0
  windowless_reach (binary b m n) h = let parts = binary_parts shape.width largest true b m n h in omega (arith, windowless_reach m parts.0, windowless_reach n parts.1)
  windowless_reach (over s w m) h = grind (arith, over_parts)

  variable_known : (v : ℕ) → v < shape.width → (run : List State) → AllByRecursion (Fits shape) run → 1 ≤ ticks run → Known (value_at run 0 v)
  variable_known v h [] fits some = absurd (omega arith)
  variable_known v h (s ∷ r) fits some = let there : v < length s.values = omega (arith, fits.0.values) in rw (slice_get-get_or s.values v (pos 0) there) (known _)

  value_reached : (inside : Bool) (m : Measure) → lawful_measure shape.width largest inside m ≡ true → (run : List State) → AllByRecursion (Fits shape) run → measure_reach m ≤ ticks run → Known (value m mark run)
  value_reached inside (numeral n) h run fits enough = known n
  value_reached inside (variable v) h run fits enough = grind (arith, variable_known, ltb-true)
  value_reached inside (unary u m) h run fits enough = known_mapped (of_one u) (value_reached inside m (unary_parts shape.width largest inside u m h).0 run fits enough)
  value_reached inside (binary b m n) h run fits enough =
      let parts = binary_parts shape.width largest inside b m n h in
      known_both (of_two b) (value_reached inside m parts.0 run fits (omega arith)) (value_reached inside n parts.1 run fits (omega arith))
  value_reached inside (over s w m) h run fits enough =
      let parts = over_parts shape.width largest inside s w m h in
      known_mapped (of_many s) (tour_reached Known (Fits shape) (collect (value m mark)) (Some []) None mark 1 (omega arith) (known [])
      (λ t fits' enough' x k. known_both ◌∷◌ (value_reached true m parts.2 t fits' (omega (arith, windowless_reach m parts.2))) k) w.first w.last run fits (omega arith))

  further_reached : (said : List State → Verdict) (t : List State) → 1 ≤ ticks t → Settled (said t) → Settled (further mark said t)
  further_reached said t some h = grind arith

  rises_reached : (c : Comparator) (m n : List State → Option ℤ) (needed : ℕ) → 1 ≤ needed → ((t : List State) → AllByRecursion (Fits shape) t → needed ≤ ticks t → Known (m t)) → ((t : List State) → AllByRecursion (Fits shape) t → needed ≤ ticks t → Known (n t))
      → (run : List State) → AllByRecursion (Fits shape) run → needed + shape.longest ≤ ticks run → Settled (rises c m n mark run)
  rises_reached c m n needed some m_known n_known run fits enough = grind (arith, ticks_cons, further_reached, settled_compared, known_both, known_mapped)

  verdict_reached : (p : Property) → lawful shape.width largest p ≡ true → (run : List State) → AllByRecursion (Fits shape) run → reach_of shape.longest p ≤ ticks run → Settled (verdict p mark run)
  verdict_reached (compare c Value m n) h run fits enough = grind (arith, compare_parts, settled_compared, value_reached)
  verdict_reached (compare c Change m n) h run fits enough =
      let parts = compare_parts shape.width largest c Change m n h in
      rises_reached c (value m mark) (value n mark) (max (measure_reach m) (measure_reach n)) (omega (arith, reach_of_measure m))
      (λ t fits' enough'. value_reached false m parts.0 t fits' (omega arith)) (λ t fits' enough'. value_reached false n parts.1 t fits' (omega arith)) run fits enough
  verdict_reached (prefixed Not p) h run fits enough = settled_swap (verdict_reached p (prefixed_parts shape.width largest Not p h).1 run fits (omega arith))
  verdict_reached (prefixed (Next k) p) h run fits enough =
      let rest : reach_of shape.longest p ≤ ticks (drop k run) = omega (arith, ticks_dropped k run fits) in
      further_reached (verdict p mark) (drop k run) (omega (arith, reach_positive shape.longest p))
      (verdict_reached p (prefixed_parts shape.width largest (Next k) p h).1 (drop k run) (All-drop (Fits shape) k run fits) rest)
  verdict_reached (prefixed (Eventually w) p) h run fits enough =
      let inner = (prefixed_parts shape.width largest (Eventually w) p h).1 in
      tour_reached Settled (Fits shape) (eventually_step (verdict p mark)) False Undecided mark (reach_of shape.longest p) (reach_positive shape.longest p) as_false
      (λ t fits' enough' x k. settled_greater (verdict_reached p inner t fits' enough') k) w.first w.last run fits enough
  verdict_reached (prefixed (Always w) p) h run fits enough =
      let inner = (prefixed_parts shape.width largest (Always w) p h).1 in
      tour_reached Settled (Fits shape) (always_step (verdict p mark)) True Undecided mark (reach_of shape.longest p) (reach_positive shape.longest p) as_true
      (λ t fits' enough' x k. settled_lesser (verdict_reached p inner t fits' enough') k) w.first w.last run fits enough
  verdict_reached (joined And p q) h run fits enough =
      let parts = joined_parts shape.width largest And p q h in
      settled_lesser (verdict_reached p parts.1 run fits (omega arith)) (verdict_reached q parts.2 run fits (omega arith))
  verdict_reached (joined Or p q) h run fits enough =
      let parts = joined_parts shape.width largest Or p q h in
      settled_greater (verdict_reached p parts.1 run fits (omega arith)) (verdict_reached q parts.2 run fits (omega arith))
  verdict_reached (joined Implies p q) h run fits enough =
      let parts = joined_parts shape.width largest Implies p q h in
      settled_greater (settled_swap (verdict_reached p parts.1 run fits (omega arith))) (verdict_reached q parts.2 run fits (omega arith))
  verdict_reached (joined Iff p q) h run fits enough =
      let parts = joined_parts shape.width largest Iff p q h in
      let left = verdict_reached p parts.1 run fits (omega arith) in
      let right = verdict_reached q parts.2 run fits (omega arith) in
      settled_lesser (settled_greater (settled_swap left) right) (settled_greater (settled_swap right) left)
  verdict_reached (joined (Until w) p q) h run fits enough =
      let parts = joined_parts shape.width largest (Until w) p q h in
      tour_reached Settled (Fits shape) (until_step (verdict p mark) (verdict q mark)) False Undecided mark (max (reach_of shape.longest p) (reach_of shape.longest q))
      (omega (arith, reach_positive shape.longest p)) as_false
      (λ t fits' enough' x k. settled_greater (verdict_reached q parts.2 t fits' (omega arith)) (settled_lesser (verdict_reached p parts.1 t fits' (omega arith)) k))
      w.first w.last run fits enough

pub settles : Settles
settles shape largest p h mark run fits some (inl closed) = (two_valued shape largest p h mark closed run fits some).1
settles shape largest p h mark run fits some (inr reached) = settled_decided (verdict_reached shape largest mark p h run fits reached)
