-- What a run file holds. Assumes nothing.
use Rattle.std.specs.Prelude.{ℕ, ◌+◌, List, length, Ok, Err, Result}
use Rattle.records.specs.Cursor.{start}
use Rattle.records.specs.Headers.{names_at, behind_header}
use Rattle.records.specs.declared.fault.RecordFault.{RecordFault}
use Rattle.runs.specs.Runs.{Meaning}
use Rattle.runs.specs.Shapes.{begun}
use Rattle.runs.specs.declared.shape.Shape.{Shape}
use Rattle.runfiles.specs.Faults.{from_record}
use Rattle.runfiles.specs.declared.fault.RunFault.{RunFault}
use Rattle.survey.specs.Fed.{rows_free, fed_from}
use Rattle.survey.specs.Summaries.{summary_of}
use Rattle.survey.specs.declared.summary.Summary.{Summary}

-- the names of the columns, the sums over the states, and the cells that are left
pub record Surveyed : Type 0 where
  pub names : List (List ℕ)
  pub summary : Summary
  pub free : ℕ

-- a variable for each column, and stays of up to 100,000 ticks
abbrev pub file_shape : List (List ℕ) → Shape
file_shape names = record { width = length names; longest = 100000 }

-- the run before its first record
abbrev pub started : List (List ℕ) → Meaning
started names = begun (file_shape names)

abbrev pub held_by : ℕ → List (List ℕ) → Result Meaning RunFault → Result Surveyed RunFault
held_by cells names (Err e) = Err e
held_by cells names (Ok m) = Ok (record { names = names; summary = summary_of m.run.states; free = rows_free cells m })

-- Every record behind the header is fed. Each but the last has a line end behind it, so there are at most as many others as bytes.
abbrev pub surveyed_by : ℕ → List ℕ → Result (List (List ℕ)) RecordFault → Result Surveyed RunFault
surveyed_by cells bs (Err e) = Err (from_record e)
surveyed_by cells bs (Ok names) = held_by cells names (fed_from cells bs (length bs + 1) (behind_header bs start) (started names))

abbrev pub survey_of : ℕ → List ℕ → Result Surveyed RunFault
survey_of cells bs = surveyed_by cells bs (names_at bs start)
