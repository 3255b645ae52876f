-- A file fed into rows, record by record. Assumes nothing.
use Rattle.std.proofs.Common.{◌≡◌, ℕ, suc, ◌+◌, ◌-◌, ◌*◌, ◌<◌, ◌≤◌, Bool, true, false, cond, leb, List, length, ℤ, is_ok, Some, None, Ok, Err, Option, Result, sym, refl, ap, ◌∙◌, subst, arith, Bor}
use Rattle.std.proofs.lemmas.List.{length-take-le}
use Rattle.records.specs.Cursor.{Cursor}
use Rattle.records.specs.Firsts.{Firsts}
use Rattle.records.specs.Records.{record_at, behind_record}
use Rattle.records.specs.declared.fault.RecordFault.{RecordFault}
use Rattle.runs.specs.Feeding.{after, fed}
use Rattle.runs.specs.Runs.{Meaning}
use Rattle.runs.specs.declared.refusal.Refusal.{Refusal}
use Rattle.rows.specs.RowRuns.{cells_of, free_in, meaning_of, need_in, written_in}
use Rattle.rows.specs.Rows.{row_largest}
use Rattle.rows.specs.declared.rows.Rows.{Rows}
use Rattle.stores.proofs.RecordedStores.{kept_count, written_long}
use Rattle.runfiles.specs.Offers.{answer_to, cells_after, meaning_after, offer_answer, offer_of, offered_answer, refusal_for}
use Rattle.runfiles.specs.declared.fault.RunFault.{RunFault}
use Rattle.survey.specs.Fed.{rows_free, answer_at, meaning_at, fed_on, fed_from}

module _ (r : Rows) where
  used_rows : r.store.head.used ≡ r.store.head.count * (r.store.head.shape.width + 1)
  used_rows = sym (length-take-le r.store.head.used (cells_of r) r.store.within) ∙ r.store.kept

  pub free_is : free_in r ≡ rows_free (length (cells_of r)) (meaning_of r)
  free_is =
      ap (λ n. cond (leb 4096 r.store.head.count) 0 (length (cells_of r) - n)) used_rows
      ∙ ap (λ k. cond (leb 4096 k) 0 (length (cells_of r) - k * (r.store.head.shape.width + 1))) (sym (kept_count r.store))

  taken_cells : (f : Firsts ℤ) (refused : Option Refusal) → refusal_for row_largest (free_in r) (need_in r) (meaning_of r) f ≡ refused → length (after refused (cells_of r) (written_in r (offer_of f))) ≡ length (cells_of r)
  taken_cells f (Some x) e = refl
  taken_cells f None e = written_long r.store (offer_of f) e

  -- no feed changes the number of cells
  same_cells : (o : Result (Option (Firsts ℤ)) RecordFault) → length (cells_after row_largest (free_in r) (need_in r) (meaning_of r) (cells_of r) (written_in r) o) ≡ length (cells_of r)
  same_cells (Err e) = refl
  same_cells (Ok None) = refl
  same_cells (Ok (Some f)) = taken_cells f _ refl

-- one call of `feed_record` on the rows r, which leaves q, at the cursor c, which it leaves at d
pub record Fed (bs : List ℕ) (r q : Rows) (c d : Cursor) (a : Result Bool RunFault) : Type 0 where
  pub told : a ≡ answer_to row_largest (free_in r) (need_in r) (meaning_of r) (record_at bs c)
  pub means : meaning_of q ≡ meaning_after row_largest (free_in r) (need_in r) (meaning_of r) (record_at bs c)
  pub holds : cells_of q ≡ cells_after row_largest (free_in r) (need_in r) (meaning_of r) (cells_of r) (written_in r) (record_at bs c)
  pub on : d ≡ cond (is_ok a) (behind_record bs c) c

-- a call speaks of the bytes that the reader holds, which stay the same
pub called : {here bytes : Bor (List ℕ)} (r q : Rows) (c d : Cursor) (a : Result Bool RunFault) → here ≡ bytes → Fed here.now r q c d a → Fed bytes.now r q c d a
called r q c d a same call = subst (λ b. Fed b.now r q c d a) same call

module _ (cells : ℕ) (bs : List ℕ) (most : ℕ) (first : Cursor) (m : Meaning) where
  -- after i turns the rows r keep all records up to the cursor c
  pub record Sofar (i : ℕ) (c : Cursor) (r : Rows) : Type 0 where
    pub whole : fed_from cells bs most first m ≡ fed_from cells bs (most - i) c (meaning_of r)
    pub long : length (cells_of r) ≡ cells

  pub begin : (r : Rows) → length (cells_of r) ≡ cells → meaning_of r ≡ m → Sofar 0 first r
  begin r long means = record {
    whole = ap (λ n. fed_from cells bs n first m) (omega arith) ∙ ap (λ n. fed_from cells bs (most - 0) first n) (sym means);
    long = long;
  }

  module _ {i : ℕ} {c : Cursor} {r : Rows} (old : Sofar i c r) where
    pub all_turns : most ≤ i → fed_from cells bs most first m ≡ Ok (meaning_of r)
    unfolding fed_from
    all_turns end = let none : most - i ≡ 0 = omega arith in old.whole ∙ ap (λ n. fed_from cells bs n c (meaning_of r)) none

    module _ {q : Rows} {d : Cursor} {a : Result Bool RunFault} (on : i < most) (call : Fed bs r q c d a) where
      pub as_long : length (cells_of q) ≡ cells
      as_long = ap length call.holds ∙ same_cells r (record_at bs c) ∙ old.long

      free_now : free_in r ≡ rows_free cells (meaning_of r)
      free_now = free_is r ∙ ap (λ n. rows_free n (meaning_of r)) old.long

      told_now : a ≡ answer_at cells bs c (meaning_of r)
      told_now = call.told ∙ ap (λ n. answer_to row_largest n (need_in r) (meaning_of r) (record_at bs c)) free_now

      means_now : meaning_of q ≡ meaning_at cells bs c (meaning_of r)
      means_now = call.means ∙ ap (λ n. meaning_after row_largest n (need_in r) (meaning_of r) (record_at bs c)) free_now

      step : fed_from cells bs most first m ≡ fed_on cells bs a (meaning_of r) (fed_from cells bs (most - (i + 1)) (behind_record bs c) (meaning_of q))
      unfolding fed_from
      step =
          let more : most - i ≡ suc (most - (i + 1)) = omega arith in
          old.whole ∙ ap (λ n. fed_from cells bs n c (meaning_of r)) more
          ∙ ap (λ b. fed_on cells bs b (meaning_of r) (fed_from cells bs (most - (i + 1)) (behind_record bs c) (meaning_at cells bs c (meaning_of r)))) (sym told_now)
          ∙ ap (λ n. fed_on cells bs a (meaning_of r) (fed_from cells bs (most - (i + 1)) (behind_record bs c) n)) (sym means_now)

      pub refused : (e : RunFault) → a ≡ Err e → fed_from cells bs most first m ≡ Err e
      refused e is = step ∙ ap (λ b. fed_on cells bs b (meaning_of r) (fed_from cells bs (most - (i + 1)) (behind_record bs c) (meaning_of q))) is

      pub fed_more : a ≡ Ok true → Sofar (i + 1) d q
      fed_more is = record {
        whole =
            step ∙ ap (λ b. fed_on cells bs b (meaning_of r) (fed_from cells bs (most - (i + 1)) (behind_record bs c) (meaning_of q))) is
            ∙ ap (λ e. fed_from cells bs (most - (i + 1)) e (meaning_of q)) (sym (call.on ∙ ap (λ b. cond (is_ok b) (behind_record bs c) c) is));
        long = as_long;
      }

      -- where the file has ended, nothing is fed
      not_fed : (o : Result (Option (Firsts ℤ)) RecordFault) → Ok false ≡ answer_to row_largest (free_in r) (need_in r) (meaning_of r) o → meaning_after row_largest (free_in r) (need_in r) (meaning_of r) o ≡ meaning_of r
      not_fed (Err e) is = refl
      not_fed (Ok None) is = refl
      not_fed (Ok (Some f)) is = taken f _ is
        where
          taken : (g : Firsts ℤ) (x : Option Refusal) → Ok false ≡ offered_answer (offer_answer row_largest g x) → fed x (offer_of g) (meaning_of r) ≡ meaning_of r
          taken g (Some x) e = refl
          taken g None e = grind (arith, e)

      pub ended : a ≡ Ok false → fed_from cells bs most first m ≡ Ok (meaning_of q)
      ended is =
          step ∙ ap (λ b. fed_on cells bs b (meaning_of r) (fed_from cells bs (most - (i + 1)) (behind_record bs c) (meaning_of q))) is
          ∙ ap Ok (sym (call.means ∙ not_fed (record_at bs c) (sym is ∙ call.told)))
