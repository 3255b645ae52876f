-- What changes keep beside the cells once a state is written. Assumes nothing.
use Rattle.std.proofs.Common.{◌≡◌, ℕ, ◌+◌, ◌*◌, ◌<◌, ◌≤◌, cond, eqb, List, [], ◌∷◌, ◌++◌, length, take, ℤ, sym, ap, ◌∙◌, add-one, arith}
use Rattle.runs.specs.Feeding.{state_of}
use Rattle.runs.specs.Offers.{Offered}
use Rattle.runs.specs.declared.shape.Shape.{Shape}
use Rattle.changes.specs.Coding.{last_of}
use Rattle.changes.specs.Encoding.{encoded, place_of, states_told, values_before}
use Rattle.changes.specs.Kept.{Kept, Stands, waypoint_at}
use Rattle.changes.specs.declared.waypoints.Waypoint.{Waypoint}
use Rattle.changes.proofs.LastValues.{last_told}
use Rattle.changes.proofs.NotedWaypoints.{all_noted}
use Rattle.changes.proofs.OneStateMore.{grown, place_more, states_more, values_more}
use Rattle.changes.proofs.Places.{place_kept, place_rises, values_kept}

-- n states are told and no more, and one more is offered
module _ (shape : Shape) (n : ℕ) (cells : List ℤ) (o : Offered) (whole : place_of cells n ≡ length cells) (wide : length o.values ≡ shape.width) (narrow : shape.width ≤ 16) where
  added_is : cells ++ encoded o.stay o.values (last_of shape (states_told shape.width n cells)) ≡ grown shape.width n cells o.stay o.values
  added_is = ap (λ olds. cells ++ encoded o.stay o.values olds) (last_told shape.width n cells)

  pub states_grown : states_told shape.width (n + 1) (cells ++ encoded o.stay o.values (last_of shape (states_told shape.width n cells))) ≡ states_told shape.width n cells ++ (state_of o ∷ [])
  states_grown = rw added_is (states_more shape.width n cells o.stay o.values whole wide narrow)

  -- what stood where a state began stands there still
  stands_still : (w : Waypoint) (m : ℕ) → m ≤ n → Stands w shape.width cells m → Stands w shape.width (grown shape.width n cells o.stay o.values) m
  stands_still w m upto before =
      let fits : place_of cells m ≤ length cells = omega (arith, place_rises cells m n upto, whole) in
      let added = encoded o.stay o.values (values_before shape.width cells n) in
      (before.0 ∙ sym (place_kept cells added m fits), before.1 ∙ sym (values_kept cells added shape.width m fits))

  pub kept_more : (last last' : List ℤ) (olds news : List Waypoint) → n < 4096 → take shape.width last ≡ values_before shape.width cells n → take (length o.values) last' ≡ o.values
      → ((k : ℕ) → k < 64 → waypoint_at news k ≡ cond (eqb (64 * k) n) (record { place = length cells; values = last }) (waypoint_at olds k))
      → ((k : ℕ) → 64 * k < n → Stands (waypoint_at olds k) shape.width cells (64 * k))
      → Kept last' news shape (n + 1) (cells ++ encoded o.stay o.values (last_of shape (states_told shape.width n cells)))
  kept_more last last' olds news few recent is noted before =
      let width = shape.width in
      let now = grown width n cells o.stay o.values in
      let here : Waypoint = record { place = length cells; values = last } in
      rw added_is (
        rw (add-one n) (place_more width n cells o.stay o.values whole wide narrow),
        rw (add-one n) (rw wide at is ∙ sym (values_more width n cells o.stay o.values whole wide narrow)),
        all_noted (λ k w. Stands w width now (64 * k)) n here (record { place = 0; values = [] }) olds news few noted
            (λ k l. stands_still (waypoint_at olds k) (64 * k) (omega arith) (before k l))
            (λ k e. rw e (stands_still here n (omega arith) (sym whole, recent))),
      )
