-- A tour joins the states to which some moment of its window belongs, each once, in order; and it is a fold over them. Assumes nothing.
use Rattle.std.proofs.Common.{◌≡◌, ℕ, zero, suc, ◌+◌, ◌-◌, ◌≤◌, Bool, true, false, cond, ◌⊎◌, List, [], ◌∷◌, map, drop, sym, refl, ap, ◌∙◌, inl, inr, arith}
use mathlib.Core.List.{foldr}
use Rattle.std.proofs.lemmas.Bool.{le-leb, or_left}
use Rattle.std.specs.List.{AllByRecursion}
use Rattle.parts.specs.declared.kinds.Window.{Window}
use Rattle.runs.specs.Runs.{State}
use Rattle.runs.specs.declared.shape.Mark.{Mark}
use Rattle.verdicts.proofs.OwnedMoments.{Owns, belongs_owns, not_within, owns_belongs, within_order}
use Rattle.verdicts.proofs.RisingNumbers.{among_suc, rising_suc, suc_among}
use Rattle.verdicts.specs.Laws.{VisitsByMoments}
use Rattle.verdicts.specs.Tours.{tour_of, tour, tour_at, visited, whole, within}
use Rattle.verdicts.specs.Windows.{Among, InOrder, Rising}

-- the numbers of the states that a tour joins
abbrev pub places : Mark → ℕ → ℕ → List State → List ℕ
places mark a b [] = []
places mark a b (s ∷ r) = tour_at (within mark a s r) (within mark b s r) (λ js. 0 ∷ js) [] (map suc (places mark (a - s.stay) (b - s.stay) r))

abbrev pub whole_from : Mark → ℕ → ℕ → List State → Bool
whole_from mark a b run = tour (λ t told. told) true false mark a b run

-- a tour is a fold over those states
module _ {A : Type 0} (join : List State → A → A) (done cut : A) (mark : Mark) where
  fold_after : (s : State) (r : List State) (end : A) (js : List ℕ)
      → foldr (λ j x. join (drop j (s ∷ r)) x) end (map suc js) ≡ foldr (λ j x. join (drop j r) x) end js
  fold_after s r end [] = refl
  fold_after s r end (j ∷ js) = ap (join (drop j r)) (fold_after s r end js)

  fold_toured : (begun ended : Bool) (s : State) (r : List State) (w : Bool) (x : A) (js : List ℕ)
      → x ≡ foldr (λ j y. join (drop j r) y) (cond w done cut) js
      → tour_at begun ended (join (s ∷ r)) done x
      ≡ foldr (λ j y. join (drop j (s ∷ r)) y) (cond (tour_at begun ended (λ told. told) true w) done cut) (tour_at begun ended (λ ks. 0 ∷ ks) [] (map suc js))
  fold_toured begun ended s r w x js e = grind (arith, fold_after)

  pub tour_folds : (a b : ℕ) (run : List State)
      → tour join done cut mark a b run ≡ foldr (λ j x. join (drop j run) x) (cond (whole_from mark a b run) done cut) (places mark a b run)
  tour_folds a b [] = refl
  tour_folds a b (s ∷ r) =
      fold_toured (within mark a s r) (within mark b s r) s r (whole_from mark (a - s.stay) (b - s.stay) r) _ _ (tour_folds (a - s.stay) (b - s.stay) r)

fold_cons : {A : Type 0} (f : ℕ → A) (told : Bool) (js : List ℕ) → foldr (λ j x. f j ∷ x) (cond told [] []) js ≡ map f js
fold_cons f true [] = refl
fold_cons f false [] = refl
fold_cons f told (j ∷ js) = ap (λ x. f j ∷ x) (fold_cons f told js)

-- which numbers those are
toured_among : (begun ended : Bool) (js : List ℕ) (j : ℕ) → Among j (tour_at begun ended (λ ks. 0 ∷ ks) [] js) → ((begun ≡ true) × (j ≡ 0)) ⊎ ((ended ≡ false) × Among j js)
toured_among begun ended js j h = grind arith

first_among : (begun ended : Bool) (js : List ℕ) → begun ≡ true → Among 0 (tour_at begun ended (λ ks. 0 ∷ ks) [] js)
first_among begun ended js h = grind arith

later_among : (begun ended : Bool) (js : List ℕ) (j : ℕ) → ended ≡ false → Among j js → Among j (tour_at begun ended (λ ks. 0 ∷ ks) [] js)
later_among begun ended js j h m = grind arith

toured_rising : (begun ended : Bool) (js : List ℕ) → Rising js → Rising (tour_at begun ended (λ ks. 0 ∷ ks) [] (map suc js))
toured_rising begun ended js h = grind (arith, among_suc, rising_suc)

places_rising : (mark : Mark) (a b : ℕ) (run : List State) → Rising (places mark a b run)
places_rising mark a b [] = tt
places_rising mark a b (s ∷ r) = grind (arith, toured_rising, places_rising mark (a - s.stay) (b - s.stay) r)

-- some moment from a to b belongs to state j
abbrev Seen : Mark → ℕ → ℕ → List State → ℕ → Type 0
Seen mark a b run j = (t : ℕ) × (a ≤ t) × (t ≤ b) × Owns mark t run j

-- moment 0 belongs where moment 1 does
at_one : (mark : Mark) (r : List State) (j : ℕ) → AllByRecursion (λ s. 1 ≤ s.stay) r → Owns mark 0 r j → Owns mark 1 r j
at_one mark [] j stays o = absurd o
at_one mark (s ∷ r) zero stays o = grind (arith, or_left, le-leb)
at_one mark (s ∷ r) (suc j) stays o = absurd (omega (arith, o.0))

module _ (mark : Mark) (a b : ℕ) (s : State) (r : List State) (past : within mark b s r ≡ false) where
  moment_later : (t j : ℕ) → AllByRecursion (λ s. 1 ≤ s.stay) r → a - s.stay ≤ t → t ≤ b - s.stay → Owns mark t r j → Seen mark a b (s ∷ r) (suc j)
  moment_later zero j stays low high o =
      let end = not_within mark b s r past in
      let same : s.stay + 1 - s.stay ≡ 1 = omega arith in
      (s.stay + 1, omega arith, omega arith, (omega arith, rw same (at_one mark r j stays o)))
  moment_later (suc t) j stays low high o =
      let end = not_within mark b s r past in
      let same : s.stay + suc t - s.stay ≡ suc t = omega arith in
      (s.stay + suc t, omega arith, omega arith, (omega arith, rw same o))

  seen_later : (j : ℕ) → AllByRecursion (λ s. 1 ≤ s.stay) r → Seen mark (a - s.stay) (b - s.stay) r j → Seen mark a b (s ∷ r) (suc j)
  seen_later j stays seen = moment_later seen.0 j stays seen.1 seen.2 seen.3

seen_rest : (mark : Mark) (a b : ℕ) (s : State) (r : List State) (j : ℕ) → Seen mark a b (s ∷ r) (suc j) → (within mark b s r ≡ false) × Seen mark (a - s.stay) (b - s.stay) r j
seen_rest mark a b s r j h = grind arith

places_seen : (mark : Mark) (a b : ℕ) → a ≤ b → (run : List State) → AllByRecursion (λ s. 1 ≤ s.stay) run → (j : ℕ) → Among j (places mark a b run) → Seen mark a b run j
places_seen mark a b order [] stays j m = absurd m
places_seen mark a b order (s ∷ r) stays j m = elim (toured_among (within mark a s r) (within mark b s r) _ j m) [
  | inl h ↦ rw h.1 (a, omega arith, order, h.0)
  | inr h ↦ let found = among_suc j _ h.1 in
      rw found.1 (seen_later mark a b s r h.0 found.0 stays.1 (places_seen mark (a - s.stay) (b - s.stay) (omega arith) r stays.1 found.0 found.2))
]

seen_places : (mark : Mark) (a b : ℕ) (run : List State) (j : ℕ) → Seen mark a b run j → Among j (places mark a b run)
seen_places mark a b [] j seen = absurd seen.3
seen_places mark a b (s ∷ r) zero seen = grind (arith, first_among, within_order)
seen_places mark a b (s ∷ r) (suc j) seen =
    let rest = seen_rest mark a b s r j seen in
    later_among (within mark a s r) (within mark b s r) _ (suc j) rest.0 (suc_among j _ (seen_places mark (a - s.stay) (b - s.stay) r j rest.1))

pub places_in_order : (mark : Mark) (w : Window) → w.first ≤ w.last → (run : List State) → AllByRecursion (λ s. 1 ≤ s.stay) run → InOrder mark w run (places mark w.first w.last run)
places_in_order mark w order run stays = record {
  rising = places_rising mark w.first w.last run;
  each = λ j m. let seen = places_seen mark w.first w.last order run stays j m in
      record { moment = seen.0; from = seen.1; upto = seen.2; belongs = owns_belongs mark seen.0 run j seen.3 };
  all = λ j v. seen_places mark w.first w.last run j (v.moment, v.from, v.upto, belongs_owns mark v.moment run j v.belongs);
}

visited_places : (mark : Mark) (w : Window) (run : List State) → visited mark w run ≡ map (λ j. drop j run) (places mark w.first w.last run)
visited_places mark w run =
    tour_folds ◌∷◌ [] [] mark w.first w.last run ∙ fold_cons (λ j. drop j run) (whole mark w run) (places mark w.first w.last run)

pub visits_by_moments : VisitsByMoments
visits_by_moments mark w order run stays = (places mark w.first w.last run, places_in_order mark w order run stays, visited_places mark w run)

-- the same fold over the visited states
fold_map : {A B : Type 0} (f : A → B → B) (g : ℕ → A) (end : B) (js : List ℕ) → foldr (λ j x. f (g j) x) end js ≡ foldr f end (map g js)
fold_map f g end [] = refl
fold_map f g end (j ∷ js) = ap (f (g j)) (fold_map f g end js)

pub over_visited : {A : Type 0} (join : List State → A → A) (done cut : A) (mark : Mark) (w : Window) (run : List State)
    → tour_of join done cut mark w run ≡ foldr join (cond (whole mark w run) done cut) (visited mark w run)
over_visited join done cut mark w run =
    tour_folds join done cut mark w.first w.last run
    ∙ fold_map join (λ j. drop j run) (cond (whole mark w run) done cut) (places mark w.first w.last run)
    ∙ ap (foldr join (cond (whole mark w run) done cut)) (sym (visited_places mark w run))
