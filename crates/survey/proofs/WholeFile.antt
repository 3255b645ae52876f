-- What the calls on a whole file come to. Assumes nothing.
use Rattle.std.proofs.Common.{◌≡◌, ℕ, ◌+◌, List, length, Ok, ap, ◌∙◌}
use Rattle.records.specs.Cursor.{Cursor, start}
use Rattle.records.specs.Headers.{names_at, behind_header}
use Rattle.runs.specs.Runs.{Meaning}
use Rattle.survey.specs.Fed.{rows_free, fed_from}
use Rattle.survey.specs.Summaries.{summary_of}
use Rattle.survey.specs.Surveys.{held_by, started, surveyed_by, survey_of}
use Rattle.survey.specs.declared.summary.Summary.{Summary}

-- The reader begins at `first` on `held`, stands at `behind` on `kept` behind the header, and the run m comes from `begun`.
pub whole_file : (cells room : ℕ) (bs held kept : List ℕ) (first behind : Cursor) (names : List (List ℕ)) (begun m : Meaning) (sum : Summary) (free : ℕ)
    → held ≡ bs → first ≡ start → Ok names ≡ names_at held first → behind ≡ behind_header held first → kept ≡ held
    → room ≡ cells → begun ≡ started names → Ok m ≡ fed_from room kept (length bs + 1) behind begun
    → sum ≡ summary_of m.run.states → free ≡ rows_free cells m
    → Ok (record { names = names; summary = sum; free = free }) ≡ survey_of cells bs
whole_file cells room bs held kept first behind names begun m sum free held_is first_is named behind_is kept_is room_is begun_is fed sum_is_lem free_is =
    let read : Ok names ≡ names_at bs start = named ∙ (λ i. names_at (held_is i) (first_is i)) in
    let after : behind ≡ behind_header bs start = behind_is ∙ (λ i. behind_header (held_is i) (first_is i)) in
    let bytes : kept ≡ bs = kept_is ∙ held_is in
    let run : Ok m ≡ fed_from cells bs (length bs + 1) (behind_header bs start) (started names) = fed ∙ (λ i. fed_from (room_is i) (bytes i) (length bs + 1) (after i) (begun_is i)) in
    (λ i. Ok (record { names = names; summary = sum_is_lem i; free = free_is i })) ∙ ap (held_by cells names) run ∙ ap (surveyed_by cells bs) read
