-- The cells of one state more tell that state, and the states before it as they were. Assumes nothing.
use Rattle.std.proofs.Common.{◌≡◌, ℕ, suc, ◌+◌, ◌<◌, ◌≤◌, List, [], ◌∷◌, ◌++◌, length, get_or, drop, ℤ, pos, nat_abs, sym, refl, ap, ◌∙◌, zero-add, arith}
use Rattle.std.proofs.lemmas.List.FromFn.{fill_by_all, get_or-map-range_with_len, length-map-range_with_len, map-range_with_len_more}
use Rattle.std.proofs.lemmas.List.{append_assoc, append-nil, drop_at, drop-drop, get_or-append-add, get_or_at, length-append, take_all}
use Rattle.runs.specs.Feeding.{state_of}
use Rattle.runs.specs.Runs.{State}
use Rattle.changes.specs.Coding.{cells_from}
use Rattle.changes.specs.Encoding.{changed_at, changes, changes_at, encoded, place_of, state_at, states_told, value_before, values_before}
use Rattle.changes.proofs.PackedChanges.{changed_new}
use Rattle.changes.proofs.Places.{place_kept, states_kept, value_kept}

-- if state n begins where these cells end, the next one begins where those of one state more end, whatever its changes are
pub place_step : (kept : List ℤ) (n : ℕ) (stay : ℤ) (cs : List ℤ) → place_of kept n ≡ length kept → place_of (kept ++ (stay ∷ pos (length cs) ∷ cs)) (suc n) ≡ length (kept ++ (stay ∷ pos (length cs) ∷ cs))
place_step kept n stay cs whole = grind (arith, place_kept, get_or-append-add, length-append)

-- the same with the cells of some states more
pub place_from : (kept : List ℤ) (n : ℕ) (olds : List ℤ) (ss : List State) → place_of kept n ≡ length kept → place_of (kept ++ cells_from olds ss) (n + length ss) ≡ length (kept ++ cells_from olds ss)
place_from kept n olds [] whole = grind (arith, append-nil)
place_from kept n olds (s ∷ ss) whole = grind (arith, append_assoc, place_step, place_from (kept ++ encoded (pos s.stay) s.values olds) (suc n) s.values ss)

abbrev pub grown : ℕ → ℕ → List ℤ → ℤ → List ℤ → List ℤ
grown width n kept stay news = kept ++ encoded stay news (values_before width kept n)

-- `kept` are the cells of n states, and `news` the values of one more
module _ (width n : ℕ) (kept : List ℤ) (stay : ℤ) (news : List ℤ)
    (whole : place_of kept n ≡ length kept) (wide : length news ≡ width) (few : width ≤ 16) where
  place_grown : place_of (grown width n kept stay news) n ≡ length kept
  place_grown = place_kept kept _ n (omega arith) ∙ whole

  changed_grown : changed_at (grown width n kept stay news) (length kept) ≡ length (changes 0 news (values_before width kept n))
  changed_grown = ap nat_abs (get_or-append-add kept (encoded stay news (values_before width kept n)) 1 (pos 0))

  changes_grown : changes_at (grown width n kept stay news) (length kept) ≡ changes 0 news (values_before width kept n)
  changes_grown =
      let added = encoded stay news (values_before width kept n) in
      let rest : drop (length kept + 2) (kept ++ added) ≡ changes 0 news (values_before width kept n) = sym (drop-drop 2 (length kept) (kept ++ added)) ∙ ap (drop 2) (drop_at kept added (length kept) refl) in
      rw (changed_grown, rest) (take_all _ (changes 0 news (values_before width kept n)) (omega arith))

  pub place_more : place_of (grown width n kept stay news) (suc n) ≡ length (grown width n kept stay news)
  place_more = rw (place_grown, changed_grown, length-append) (omega arith)

  value_more : (v : ℕ) → v < width → get_or news v (pos 0) ≡ value_before (grown width n kept stay news) v (suc n)
  value_more v there =
      let olds = values_before width kept n in
      let old = get_or-map-range_with_len (λ u. value_before kept u n) 0 width v v (pos 0) there (zero-add v) in
      let long : length news ≤ length olds = rw length-map-range_with_len (omega arith) in
      let told = changed_new v 0 news olds long (omega arith) (omega arith) in
      rw (place_grown, changes_grown, value_kept kept (encoded stay news olds) v n (omega arith)) (sym (rw (zero-add v, old) at told))

  pub values_more : values_before width (grown width n kept stay news) (suc n) ≡ news
  values_more = sym (fill_by_all (λ v. value_before (grown width n kept stay news) v (suc n)) news width (pos 0) wide value_more)

  state_grown : state_at width (grown width n kept stay news) n ≡ state_of (record { stay = stay; values = news })
  state_grown =
      let olds = values_before width kept n in
      let stays = ap nat_abs (get_or_at kept stay (pos (length (changes 0 news olds)) ∷ changes 0 news olds) (pos 0) (place_of (grown width n kept stay news) n) (sym place_grown)) in
      rw (values_more, stays)

  pub states_more : states_told width (n + 1) (grown width n kept stay news) ≡ states_told width n kept ++ (state_of (record { stay = stay; values = news }) ∷ [])
  states_more =
      map-range_with_len_more (state_at width (grown width n kept stay news)) 0 n n (zero-add n)
      ∙ rw (states_kept kept (encoded stay news (values_before width kept n)) width n (omega arith), state_grown)
