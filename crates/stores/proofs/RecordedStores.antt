-- A store, whatever its layout is, is a kind of recorder with cells of its own, for which the law over lists of calls holds. Assumes nothing.
use Rattle.std.proofs.Common.{◌≡◌, ◌+◌, ◌-◌, ◌≤◌, cond, leb, List, ◌++◌, length, ℤ, None, sym, refl, ap, ◌∙◌, arith}
use lib.Seq.{paste}
use Rattle.std.proofs.lemmas.Bool.Decides.{nat_tests}
use Rattle.std.proofs.lemmas.List.{length-take-le}
use Rattle.runs.specs.Feeding.{state_of, with_state}
use Rattle.runs.specs.Offers.{Offered}
use Rattle.runs.proofs.TakenStates.{taken_lawful, taken_room}
use Rattle.stores.specs.Filled.{filled_by, need_after, over}
use Rattle.stores.specs.Recorded.{cells_in, free_beside}
use Rattle.stores.specs.Stores.{cells_of, free_in, meaning_of, need_in, refusal_by, states_of, written_in}
use Rattle.stores.specs.declared.layout.Layout.{Ghosts}
use Rattle.stores.specs.declared.store.Store.{Store}
use Rattle.stores.proofs.PastedCells.{over_more}
use Rattle.stores.proofs.RecordedCalls.{Holds, Kind}
use Rattle.stores.proofs.WrittenState.{as_many}

module _ {L : Type 0} {g : Ghosts L} (r : Store L g) where
  pub kept_count : length (states_of r) ≡ r.head.count
  kept_count = g.coding.counted r.head.shape r.head.count (filled_by r.head (cells_of r))

  used_is : r.head.used ≡ length (cells_in g.coding (meaning_of r))
  used_is = sym (length-take-le r.head.used (cells_of r) r.within) ∙ ap length r.exact

  pub free_is : free_in r ≡ free_beside (length (cells_of r)) (states_of r) (cells_in g.coding (meaning_of r))
  free_is = ap (λ n. cond (leb 4096 n) 0 (length (cells_of r) - r.head.used)) (sym kept_count) ∙ ap (λ n. cond (leb 4096 (length (states_of r))) 0 (length (cells_of r) - n)) used_is

  -- a state that is taken fills cells that are there
  module _ (o : Offered) (taken : refusal_by r o ≡ None) where
    fits : r.head.used + g.coding.needs r.head.shape (states_of r) o ≤ length (cells_of r)
    fits =
        let lawful = taken_lawful g.coding.largest (free_in r) (need_in r o) (meaning_of r) o taken in
        let room = taken_room g.coding.largest (free_in r) (need_in r o) (meaning_of r) o taken in
        let need : need_in r o ≡ g.coding.needs r.head.shape (states_of r) o = rw lawful in
        grind (arith, nat_tests, r.within)

    pub written_long : length (written_in r o) ≡ length (cells_of r)
    written_long =
        let lawful = taken_lawful g.coding.largest (free_in r) (need_in r o) (meaning_of r) o taken in
        as_many {k = g.coding} {h = r.head} {o = o} (record { lawful = lawful; needs = refl; within = r.within; room = fits })

    pub taken_held : (first : List ℤ) → Holds g.coding.cells first (meaning_of r) (cells_of r) → Holds g.coding.cells first (with_state (state_of o) 0 (meaning_of r).run) (written_in r o)
    taken_held first before =
        let lawful = taken_lawful g.coding.largest (free_in r) (need_in r o) (meaning_of r) o taken in
        let filled = cells_in g.coding (meaning_of r) in
        let added = g.coding.added r.head.shape (states_of r) o in
        let need = g.coding.needs r.head.shape (states_of r) o in
        let long = sym (g.coding.fits r.head.shape (states_of r) o lawful) in
        let more : filled ++ added ≡ cells_in g.coding (with_state (state_of o) 0 (meaning_of r).run) = sym (g.coding.more r.head.shape (states_of r) o lawful) in
        record {
          held = ap (λ cs. paste cs r.head.used added need) before.held ∙ over_more filled added first r.head.used need used_is long ∙ ap (λ cs. over cs first) more;
          long = written_long ∙ before.long;
        }

abbrev pub store_kind : {L : Type 0} {g : Ghosts L} → Kind (Store L g)
store_kind {g} = record {
  largest = g.coding.largest;
  filled = g.coding.cells;
  need = need_after g.coding;
  meaning = meaning_of;
  cells = cells_of;
  room = free_in;
  price = need_in;
  written = written_in;
  leads = λ r. refl;
  free_is = λ first r held. free_is r;
  need_is = λ r. refl;
  taken = λ first r o held taken. taken_held r o taken first held;
}
