-- What a record of a file does to a run. Assumes nothing.
use Rattle.std.specs.Prelude.{ℕ, Bool, true, false, cond, List, [], ℤ, Some, None, Ok, Err, Option, Result, nat_le}
use Rattle.records.specs.Firsts.{Firsts}
use Rattle.records.specs.Records.{stay_of, values_of}
use Rattle.records.specs.declared.fault.RecordFault.{RecordFault}
use Rattle.runs.specs.Feeding.{feed_refusal, fed, after}
use Rattle.runs.specs.Offers.{Offered}
use Rattle.runs.specs.Recorders.{refusal_by}
use Rattle.runs.specs.Runs.{Meaning}
use Rattle.runs.specs.declared.recorder.Recorder.{Ghosts}
use Rattle.runs.specs.declared.refusal.Refusal.{Refusal}
use Rattle.runfiles.specs.Faults.{from_record, from_run}
use Rattle.runfiles.specs.declared.fault.RunFault.{RunFault}

-- What a record offers. One with more fields than any run takes is refused for their number whatever they are, and not all of them are kept: it offers no values.
abbrev pub offer_of : Firsts ℤ → Offered
offer_of f = record { stay = stay_of f; values = cond (nat_le f.count 17) (values_of f) [] }

-- a refusal of the run, told with its place in the file
abbrev pub offer_answer : ℕ → Firsts ℤ → Option Refusal → Result Unit RunFault
offer_answer largest f (Some r) = Err (from_run largest f r)
offer_answer largest f None = Ok tt

-- what an offered record comes to: true where the run took it
abbrev pub offered_answer : Result Unit RunFault → Result Bool RunFault
offered_answer (Err e) = Err e
offered_answer (Ok u) = Ok true

-- A record offered to a run of this meaning: `need` are the cells that a state would need, `free` those that are free.
module _ (largest free : ℕ) (need : Offered → ℕ) (m : Meaning) where
  -- why the run refuses the record, if it does
  abbrev pub refusal_for : Firsts ℤ → Option Refusal
  refusal_for f = feed_refusal largest free (need (offer_of f)) m (offer_of f)

  -- The answer: true once a state is fed, false once the file has ended. The reader's own faults come first.
  abbrev pub answer_to : Result (Option (Firsts ℤ)) RecordFault → Result Bool RunFault
  answer_to (Err e) = Err (from_record e)
  answer_to (Ok None) = Ok false
  answer_to (Ok (Some f)) = offered_answer (offer_answer largest f (refusal_for f))

  -- what the run then means: only a record that is taken changes it
  abbrev pub meaning_after : Result (Option (Firsts ℤ)) RecordFault → Meaning
  meaning_after (Err e) = m
  meaning_after (Ok None) = m
  meaning_after (Ok (Some f)) = fed (refusal_for f) (offer_of f) m

  -- its cells then: only a record that is taken is written, as `written` lays it down
  abbrev pub cells_after : List ℤ → (Offered → List ℤ) → Result (Option (Firsts ℤ)) RecordFault → List ℤ
  cells_after cells written (Err e) = cells
  cells_after cells written (Ok None) = cells
  cells_after cells written (Ok (Some f)) = after (refusal_for f) cells (written (offer_of f))

-- the same at a recorder x
module _ {X : Type 0} (R : Ghosts X) (x : X) where
  -- why it refuses the record, if it does
  abbrev pub record_refusal : Firsts ℤ → Option Refusal
  record_refusal f = refusal_by R x (offer_of f)

  -- its answer to what the reader reads next
  abbrev pub record_answer : Result (Option (Firsts ℤ)) RecordFault → Result Bool RunFault
  record_answer row = answer_to R.largest (R.room x) (R.price x) (R.meaning x) row

  -- what it means after that
  abbrev pub record_meaning : Result (Option (Firsts ℤ)) RecordFault → Meaning
  record_meaning row = meaning_after R.largest (R.room x) (R.price x) (R.meaning x) row

  -- its cells after that
  abbrev pub record_cells : Result (Option (Firsts ℤ)) RecordFault → List ℤ
  record_cells row = cells_after R.largest (R.room x) (R.price x) (R.meaning x) (R.cells x) (R.written x) row
