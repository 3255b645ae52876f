-- The lines that say what a run file holds, each ended by CRLF. Assumes nothing.
use Rattle.std.specs.Prelude.{ℕ, cond, List, [], ◌∷◌, ◌++◌, Some, None, Ok, Err, codes, decimal, Option, Result}
use Rattle.std.specs.List.{flat_map, zip}
use Rattle.records.specs.Bytes.{comma, quote}
use Rattle.records.specs.Headers.{holds}
use Rattle.records.specs.Refusals.{refusal_text}
use Rattle.records.specs.declared.fault.Refusal.{Refusal}
use Rattle.runfiles.specs.Faults.{refusal_of}
use Rattle.runfiles.specs.declared.fault.RunFault.{RunFault}
use Rattle.survey.specs.Surveys.{Surveyed, survey_of}
use Rattle.survey.specs.Ranges.{range_text}
use Rattle.survey.specs.declared.range.Range.{Range}
use Rattle.survey.specs.declared.summary.Summary.{Summary}

-- a name as a field: in quotes where a comma stands in it
abbrev pub field_text : List ℕ → List ℕ
field_text name = cond (holds name comma) (quote ∷ (name ++ (quote ∷ []))) name

abbrev pub column_names : List (List ℕ) → List ℕ
column_names ns = flat_map (λ n. comma ∷ field_text n) ns

abbrev pub crlf : List ℕ
crlf = codes "\r\n"

-- the range of a column's values; nothing stands for its ends where there are no states
abbrev pub range_end : Option Range → List ℕ
range_end None = codes ",,\r\n"
range_end (Some r) = codes "," ++ (range_text r ++ crlf)

abbrev pub range_line : List ℕ → Option Range → List ℕ
range_line name r = field_text name ++ range_end r

abbrev pub range_lines : List (List ℕ) → List (Option Range) → List ℕ
range_lines ns rs = flat_map (λ p. range_line p.0 p.1) (zip ns rs)

-- the states, their ticks, and the rows that keep them: the free cells, all cells, and the longest stay
abbrev pub sum_lines : Summary → ℕ → List ℕ
sum_lines s free =
    codes "\r\nstates," ++ (decimal s.states ++ (codes "\r\nticks," ++ (decimal s.ticks ++ (codes "\r\nrows," ++ (decimal free ++ (codes "," ++ (decimal 16384 ++ (codes "," ++ (decimal 100000 ++ crlf)))))))))

abbrev pub held_lines : Surveyed → List ℕ
held_lines s = codes "columns" ++ column_names s.names ++ sum_lines s.summary s.free ++ range_lines s.names s.summary.ranges

abbrev pub refused_line : Refusal → List ℕ
refused_line r = codes "refused," ++ (refusal_text r ++ crlf)

abbrev pub statement_by : Result Surveyed RunFault → List ℕ
statement_by (Ok s) = held_lines s
statement_by (Err f) = refused_line (refusal_of f.cause)

abbrev pub statement_of : List ℕ → List ℕ
statement_of bs = statement_by (survey_of 16384 bs)
