-- What a recorder refuses, and what a call leaves of it. Assumes nothing.
use Rattle.std.specs.Prelude.{List, ℤ, Option}
use Rattle.runs.specs.Calls.{Step, step_of, step_refusal, step_written, stepped}
use Rattle.runs.specs.Feeding.{feed_refusal}
use Rattle.runs.specs.Offers.{Offered}
use Rattle.runs.specs.Runs.{Meaning}
use Rattle.runs.specs.declared.calls.Call.{Call}
use Rattle.runs.specs.declared.recorder.Recorder.{Ghosts}
use Rattle.runs.specs.declared.refusal.Refusal.{Refusal}

module _ {X : Type 0} (R : Ghosts X) (x : X) where
  -- why the recorder refuses an offer, if it does
  abbrev pub refusal_by : Offered → Option Refusal
  refusal_by o = feed_refusal R.largest (R.room x) (R.price x o) (R.meaning x) o

  -- the call as it comes to the recorder
  abbrev pub step_by : Call → Step
  step_by c = step_of (R.room x) (R.price x) c

  -- why it refuses the call, if it does, and its meaning and cells after it
  abbrev pub call_refusal : Call → Option Refusal
  call_refusal c = step_refusal R.largest (step_by c) (R.meaning x)

  abbrev pub meaning_after : Call → Meaning
  meaning_after c = stepped R.largest (step_by c) (R.meaning x)

  abbrev pub cells_after : Call → List ℤ
  cells_after c = step_written R.largest (step_by c) (R.meaning x) (R.cells x) (R.written x)
