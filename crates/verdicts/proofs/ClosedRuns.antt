-- On a closed run the verdict of a formula is true where the formula holds and false where it does not. Assumes nothing.
use Rattle.std.proofs.Common.{◌≡◌, ℕ, ◌<◌, ◌≤◌, Bool, true, false, List, [], ◌∷◌, length, get_or, drop, ℤ, pos, ◌-ℤ◌, ◌*ℤ◌, Some, None, Option, sym, refl, ap, ◌∙◌, subst, ap₂, arith}
use mathlib.Core.List.{foldr}
use Rattle.std.specs.Option.{option_map}
use Rattle.std.specs.List.{AllByRecursion}
use Rattle.std.proofs.ByRecursion.{All-drop, All-weaker}
use Rattle.std.proofs.lemmas.List.{length-drop}
use Rattle.std.proofs.lemmas.Option.{slice_get-get_or}
use Rattle.std.proofs.lemmas.Bool.{false≢true, ltb-true}
use Rattle.parts.specs.Formulas.{Measure, numeral, variable, unary, binary, over, Property, compare, prefixed, joined}
use Rattle.parts.specs.Limits.{lawful, lawful_measure, lawful_window}
use Rattle.parts.specs.declared.kinds.Comparator.{Comparator}
use Rattle.parts.specs.declared.kinds.Connective.TheVariants.{And, Or, Implies, Iff, Until}
use Rattle.parts.specs.declared.kinds.Prefix.TheVariants.{Not, Next, Eventually, Always}
use Rattle.parts.specs.declared.kinds.Quantity.TheVariants.{Value, Change}
use Rattle.parts.specs.declared.kinds.Window.{Window}
use Rattle.runs.specs.Moments.{Belongs}
use Rattle.runs.specs.Runs.{State, endures, value_at}
use Rattle.runs.specs.declared.shape.Mark.{Mark}
use Rattle.runs.specs.declared.shape.Mark.TheVariants.{Closed}
use Rattle.runs.specs.declared.shape.Shape.{Shape}
use Rattle.verdicts.proofs.LawfulFormulas.{binary_parts, compare_parts, joined_parts, over_parts, prefixed_parts, unary_parts, window_order}
use Rattle.verdicts.proofs.RisingNumbers.{same_rising}
use Rattle.verdicts.proofs.VisitedStates.{places, places_in_order, tour_folds}
use Rattle.verdicts.proofs.WholeWindows.{closed_whole}
use Rattle.verdicts.specs.Arithmetic.{compares, of_many, of_two}
use Rattle.verdicts.specs.Begins.{Fits}
use Rattle.verdicts.specs.Laws.{Tells, TwoValued}
use Rattle.verdicts.specs.Tables.{decided}
use Rattle.verdicts.specs.Tours.{tour_of}
use Rattle.verdicts.specs.Truth.{Holds, Number, Pairwise}
use Rattle.verdicts.specs.Verdicts.{always_step, collect, compared, eventually_step, further, rises, until_step, value, verdict}
use Rattle.verdicts.specs.Windows.{Among, InOrder, Visits}
use Rattle.verdicts.specs.declared.verdict.Verdict.{Verdict}
use Rattle.verdicts.specs.declared.verdict.Verdict.TheVariants.{False, True, Undecided}
use Rattle.verdicts.proofs.ToldVerdicts.{Told, every_told, right, some_told, told_and, told_as, told_not, told_or, until_told, wrong}
use Rattle.verdicts.proofs.OnlyNumbers.{Only, all_told, only_both, only_mapped}

-- whether the last state endures is all that moments ask of a mark: so of a moment that belongs to a state
pub belongs_as : (mark other : Mark) → endures other ≡ true → {states : List State} {i t j : ℕ} → Belongs mark states i t j → Belongs other states i t j
belongs_as mark other closed b = grind arith

-- so of a state that a window visits
pub visits_as : (mark other : Mark) → endures other ≡ true → {w : Window} {run : List State} {j : ℕ} → Visits mark w run j → Visits other w run j
visits_as mark other closed v = grind arith

-- so of all of these in their order
in_order_as : (mark : Mark) → endures mark ≡ true → {w : Window} {run : List State} {js : List ℕ} → InOrder mark w run js → InOrder Closed w run js
in_order_as mark closed order = grind arith

compared_told : (P Q : ℤ → Type 0) (x y : Option ℤ) (c : Comparator) → Only P x → Only Q y → Told ((a : ℤ) × (b : ℤ) × P a × Q b × (compares c a b ≡ true)) (compared c x y)
compared_told P Q x y c m n = rw (m.known, n.known) (by_test (compares c m.number n.number) refl)
  where
    by_test : (t : Bool) → compares c m.number n.number ≡ t → Told ((a : ℤ) × (b : ℤ) × P a × Q b × (compares c a b ≡ true)) (decided t)
    by_test true e = right (m.number, n.number, m.is, n.is, e)
    by_test false e = wrong (λ h. false≢true (sym e ∙ (sym (ap₂ (compares c) (m.only h.0 h.2) (n.only h.1 h.3)) ∙ h.4)))

further_told : (mark : Mark) → endures mark ≡ true → (P : List State → Type 0) (said : List State → Verdict) (k : ℕ) (run : List State)
    → ((t : List State) → t ≡ drop k run → 0 < length t → Told (P t) (said t)) → Told ((k < length run) × P (drop k run)) (further mark said (drop k run))
further_told mark closed P said k run each = by_rest (drop k run) refl
  where
    by_rest : (t : List State) → t ≡ drop k run → Told ((k < length run) × P (drop k run)) (further mark said t)
    by_rest [] e = rw closed (wrong (λ h. omega (arith, h.0, ap length e, length-drop k run)))
    by_rest (s ∷ r) e = told_as (λ x. (omega (arith, ap length e, length-drop k run), subst P e x)) (λ h. subst P (sym e) h.1) (each (s ∷ r) e (omega arith))

module _ (shape : Shape) (largest : ℕ) (mark : Mark) (closed : endures mark ≡ true) where
  fits_stays : (run : List State) → AllByRecursion (Fits shape) run → AllByRecursion (λ s. 1 ≤ s.stay) run
  fits_stays run fits = All-weaker (Fits shape) (λ s. 1 ≤ s.stay) (λ s f. f.stay.0) run fits

  visits_in_order : (w : Window) → lawful_window w ≡ true → (run : List State) → AllByRecursion (Fits shape) run → InOrder Closed w run (places mark w.first w.last run)
  visits_in_order w h run fits = grind (arith, in_order_as, places_in_order, window_order, fits_stays)

  visited_there : (run : List State) (j : ℕ) {w : Window} → Visits Closed w run j → 0 < length (drop j run)
  visited_there run j v = omega (arith, v.belongs.there, length-drop j run)

  over_folds : {A : Type 0} (join : List State → A → A) (done cut : A) (w : Window) (run : List State) → 0 < length run
      → tour_of join done cut mark w run ≡ foldr (λ j x. join (drop j run) x) done (places mark w.first w.last run)
  over_folds join done cut w run some = grind (arith, tour_folds, closed_whole)

  variable_told : (v : ℕ) → v < shape.width → (run : List State) → AllByRecursion (Fits shape) run → 0 < length run → Only (λ z. value_at run 0 v ≡ Some z) (value_at run 0 v)
  variable_told v h [] fits some = absurd (omega arith)
  variable_told v h (s ∷ r) fits some =
      let there : v < length s.values = omega (arith, fits.0.values) in
      let read = slice_get-get_or s.values v (pos 0) there in
      record { number = get_or s.values v (pos 0); known = read; is = read; only = λ other e. cc (read, e) }

  number_told : (inside : Bool) (m : Measure) → lawful_measure shape.width largest inside m ≡ true
      → (run : List State) → AllByRecursion (Fits shape) run → 0 < length run → Only (Number m run) (value m mark run)
  number_told inside (numeral n) h run fits some = grind arith
  number_told inside (variable v) h run fits some = variable_told v (ltb-true v shape.width h) run fits some
  number_told inside (unary u m) h run fits some = grind (arith, only_mapped, unary_parts, number_told inside m (unary_parts shape.width largest inside u m h).0 run fits some)
  number_told inside (binary b m n) h run fits some =
      let parts = binary_parts shape.width largest inside b m n h in
      only_both (of_two b) (Number m run) (Number n run) _ _ (number_told inside m parts.0 run fits some) (number_told inside n parts.1 run fits some)
  number_told inside (over s w m) h run fits some =
      let parts = over_parts shape.width largest inside s w m h in
      let order = visits_in_order w parts.1 run fits in
      let js = places mark w.first w.last run in
      let P = λ (j : ℕ) (x : ℤ). Number m (drop j run) x in
      let found = all_told P (λ j. value m mark (drop j run)) js
      (λ j i. number_told true m parts.2 (drop j run) (All-drop (Fits shape) j run fits) (visited_there run j (order.each j i))) in
      record {
        number = of_many s found.numbers;
        known = ap (option_map (of_many s)) (over_folds (collect (value m mark)) (Some []) None w run some ∙ found.known);
        is = (js, found.numbers, order, found.is, refl);
        only = λ other o.
            let same = same_rising o.0 js o.2.rising order.rising (λ j i. order.all j (o.2.each j i)) (λ j i. o.2.all j (order.each j i)) in
            o.4 ∙ ap (of_many s) (found.only o.1 (subst (λ ks. Pairwise P ks o.1) same o.3));
      }

  rises_told : (c : Comparator) (m n : Measure) → lawful shape.width largest (compare c Change m n) ≡ true
      → (run : List State) → AllByRecursion (Fits shape) run → 0 < length run → Told (Holds (compare c Change m n) run) (rises c (value m mark) (value n mark) mark run)
  rises_told c m n h [] fits some = absurd (omega arith)
  rises_told c m n h (s ∷ []) fits some = rw closed (wrong (λ holds. omega (arith, holds.0)))
  rises_told c m n h (s ∷ t ∷ r) fits some =
      let parts = compare_parts shape.width largest c Change m n h in
      let run = s ∷ t ∷ r in
      let times = λ (x : ℤ). x *ℤ pos s.stay in
      told_as
      (λ o. (omega arith, o.2.0, o.2.1, o.3.0, s.stay, o.2.2, o.2.3, o.3.1, refl, sym (ap₂ (compares c) o.2.4 o.3.2) ∙ o.4))
      (λ o. (
        o.1 -ℤ o.2,
        times o.3,
        (o.1, o.2, o.5, o.6, refl),
        (o.3, o.7, refl),
        let same : s.stay ≡ o.4 = cc in ap (λ k. compares c (o.1 -ℤ o.2) (o.3 *ℤ pos k)) same ∙ o.9,
      ))
      (compared_told (λ z. (x : ℤ) × (y : ℤ) × Number m (t ∷ r) x × Number m run y × (z ≡ x -ℤ y)) (λ z. (x : ℤ) × Number n run x × (z ≡ times x)) _ _ c
      (only_both ◌-ℤ◌ (Number m (t ∷ r)) (Number m run) _ _ (number_told false m parts.0 (t ∷ r) fits.1 (omega arith)) (number_told false m parts.0 run fits (omega arith)))
      (only_mapped times (Number n run) _ (number_told false n parts.1 run fits (omega arith))))

  -- an operand of a window, at each visited state
  operand_told : (p : Property) → ((t : List State) → AllByRecursion (Fits shape) t → 0 < length t → Told (Holds p t) (verdict p mark t))
      → (w : Window) → lawful_window w ≡ true → (run : List State) → AllByRecursion (Fits shape) run
      → (j : ℕ) → Among j (places mark w.first w.last run) → Told (Holds p (drop j run)) (verdict p mark (drop j run))
  operand_told p told w h run fits j i =
      told (drop j run) (All-drop (Fits shape) j run fits) (visited_there run j ((visits_in_order w h run fits).each j i))

  verdict_told : (p : Property) → lawful shape.width largest p ≡ true → (run : List State) → AllByRecursion (Fits shape) run → 0 < length run → Told (Holds p run) (verdict p mark run)
  verdict_told (compare c Value m n) h run fits some = grind (arith, compare_parts, compared_told, number_told)
  verdict_told (compare c Change m n) h run fits some = rises_told c m n h run fits some
  verdict_told (prefixed Not p) h run fits some = told_not (verdict_told p (prefixed_parts shape.width largest Not p h).1 run fits some)
  verdict_told (prefixed (Next k) p) h run fits some =
      further_told mark closed (Holds p) (verdict p mark) k run
      (λ t e some'. verdict_told p (prefixed_parts shape.width largest (Next k) p h).1 t (subst (AllByRecursion (Fits shape)) (sym e) (All-drop (Fits shape) k run fits)) some')
  verdict_told (prefixed (Eventually w) p) h run fits some =
      let parts = prefixed_parts shape.width largest (Eventually w) p h in
      let order = visits_in_order w parts.0 run fits in
      rw (over_folds (eventually_step (verdict p mark)) False Undecided w run some)
      (told_as (λ o. (o.0, order.each o.0 o.1, o.2)) (λ o. (o.0, order.all o.0 o.1, o.2))
      (some_told (λ j. Holds p (drop j run)) (λ j. verdict p mark (drop j run)) (places mark w.first w.last run) (operand_told p (verdict_told p parts.1) w parts.0 run fits)))
  verdict_told (prefixed (Always w) p) h run fits some =
      let parts = prefixed_parts shape.width largest (Always w) p h in
      let order = visits_in_order w parts.0 run fits in
      rw (over_folds (always_step (verdict p mark)) True Undecided w run some)
      (told_as (λ o j v. o j (order.all j v)) (λ o j i. o j (order.each j i))
      (every_told (λ j. Holds p (drop j run)) (λ j. verdict p mark (drop j run)) (places mark w.first w.last run) (operand_told p (verdict_told p parts.1) w parts.0 run fits)))
  verdict_told (joined And p q) h run fits some =
      let parts = joined_parts shape.width largest And p q h in told_and (verdict_told p parts.1 run fits some) (verdict_told q parts.2 run fits some)
  verdict_told (joined Or p q) h run fits some =
      let parts = joined_parts shape.width largest Or p q h in told_or (verdict_told p parts.1 run fits some) (verdict_told q parts.2 run fits some)
  verdict_told (joined Implies p q) h run fits some =
      let parts = joined_parts shape.width largest Implies p q h in told_or (told_not (verdict_told p parts.1 run fits some)) (verdict_told q parts.2 run fits some)
  verdict_told (joined Iff p q) h run fits some =
      let parts = joined_parts shape.width largest Iff p q h in
      let left = verdict_told p parts.1 run fits some in
      let right' = verdict_told q parts.2 run fits some in
      told_and (told_or (told_not left) right') (told_or (told_not right') left)
  verdict_told (joined (Until w) p q) h run fits some =
      let parts = joined_parts shape.width largest (Until w) p q h in
      let order = visits_in_order w parts.0 run fits in
      rw (over_folds (until_step (verdict p mark) (verdict q mark)) False Undecided w run some)
      (told_as
      (λ o. (o.0, order.each o.0 o.1, o.2, λ j below v. o.3 j below (order.all j v)))
      (λ o. (o.0, order.all o.0 o.1, o.2, λ j below i. o.3 j below (order.each j i)))
      (until_told (λ j. Holds p (drop j run)) (λ j. Holds q (drop j run)) (λ j. verdict p mark (drop j run)) (λ j. verdict q mark (drop j run)) (places mark w.first w.last run)
      order.rising (operand_told p (verdict_told p parts.1) w parts.0 run fits) (operand_told q (verdict_told q parts.2) w parts.0 run fits)))

-- as the law says it
told_tells : (p : Property) (run : List State) {v : Verdict} → Told (Holds p run) v → Tells p run v × (v ≡ Undecided → ⊥)
told_tells p run h = grind arith

pub two_valued : TwoValued
two_valued shape largest p h mark closed run fits some = told_tells p run (verdict_told shape largest mark closed p h run fits some)
