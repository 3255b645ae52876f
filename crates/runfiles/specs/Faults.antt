-- The faults of a file, layer by layer, with their numbers and places. Assumes nothing.
use Rattle.std.specs.Prelude.{ℕ, ◌+◌, ◌-◌, List, ℤ, Some, None, Option, nat_lt, position, unsigned_abs}
use Rattle.std.specs.Option.{option_map, unwrap_or}
use Rattle.std.specs.List.{slice_get}
use Rattle.records.specs.Firsts.{Firsts}
use Rattle.records.specs.Records.{values_of}
use Rattle.records.specs.Refusals.{position_of, refusal}
use Rattle.records.specs.declared.fault.Position.{Position}
use Rattle.records.specs.declared.fault.RecordFault.{RecordFault}
use Rattle.records.specs.declared.fault.Refusal as told
use Rattle.runs.specs.Feeding.{number}
use Rattle.runs.specs.declared.refusal.Refusal.{Refusal}
use Rattle.runs.specs.declared.refusal.Refusal.TheVariants as refused
use Rattle.runfiles.specs.declared.fault.Cause.{Cause}
use Rattle.runfiles.specs.declared.fault.Cause.TheVariants.{Record, Run}
use Rattle.runfiles.specs.declared.fault.RunFault.{RunFault}

-- the number of the state, from 0, of the record at this position: the header is row 0 of the file
abbrev pub state_at : Position → ℕ
state_at p = p.row - 1

-- a record's fault, whole, with the number of its state
abbrev pub from_record : RecordFault → RunFault
from_record f = record { state = state_at (position_of f); cause = Record f }

abbrev pub refusal_of : Cause → told.Refusal
refusal_of (Record f) = refusal f
refusal_of (Run r place) = record { number = number r; place = place }

-- the number of the leftmost value beyond the largest magnitude
abbrev pub first_over : ℕ → List ℤ → Option ℕ
first_over largest vs = position (λ v. nat_lt largest (unsigned_abs v)) vs

-- the first byte of a field, the stay's being 0; that of the record, where no such field is kept
abbrev pub byte_at : Firsts ℤ → ℕ → ℕ
byte_at f i = unwrap_or (option_map (λ p. p.byte) (slice_get f.places i)) f.at.byte

abbrev pub over_place : Firsts ℤ → Option ℕ → ℕ
over_place f None = f.at.byte
over_place f (Some i) = byte_at f (i + 1)

-- where in the file a run's refusal stands: the record begins with the stay's field
abbrev pub place_of : ℕ → Firsts ℤ → Refusal → ℕ
place_of largest f refused.Width = f.at.byte
place_of largest f refused.Ended = 0
place_of largest f refused.Stay = f.at.byte
place_of largest f refused.Magnitude = over_place f (first_over largest (values_of f))
place_of largest f refused.Full = f.at.byte
place_of largest f refused.NoStates = 0

abbrev pub from_run : ℕ → Firsts ℤ → Refusal → RunFault
from_run largest f r = record { state = state_at f.at; cause = Run r (place_of largest f r) }
