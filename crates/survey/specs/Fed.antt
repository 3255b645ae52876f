-- The run that a file means, kept in rows. Assumes nothing.
use Rattle.std.specs.Prelude.{ℕ, zero, suc, ◌+◌, ◌-◌, ◌*◌, Bool, true, false, cond, List, length, Ok, Err, Result, nat_le}
use Rattle.records.specs.Cursor.{Cursor}
use Rattle.records.specs.Records.{record_at, behind_record}
use Rattle.runs.specs.Runs.{Meaning}
use Rattle.rows.specs.Rows.{row_largest, row_need}
use Rattle.runfiles.specs.Offers.{answer_to, meaning_after}
use Rattle.runfiles.specs.declared.fault.RunFault.{RunFault}

-- the cells that rows have free, of so many: each state that they keep fills a row, and 4096 states are the most
abbrev pub rows_free : ℕ → Meaning → ℕ
rows_free cells m = cond (nat_le 4096 (length m.run.states)) 0 (cells - length m.run.states * (m.run.shape.width + 1))

-- one record fed to rows with so many cells
module _ (cells : ℕ) (bs : List ℕ) where
  abbrev pub answer_at : Cursor → Meaning → Result Bool RunFault
  answer_at c m = answer_to row_largest (rows_free cells m) (row_need m.run.shape) m (record_at bs c)

  abbrev pub meaning_at : Cursor → Meaning → Meaning
  meaning_at c m = meaning_after row_largest (rows_free cells m) (row_need m.run.shape) m (record_at bs c)

  abbrev pub fed_on : Result Bool RunFault → Meaning → Result Meaning RunFault → Result Meaning RunFault
  fed_on (Err e) m rest = Err e
  fed_on (Ok true) m rest = rest
  fed_on (Ok false) m rest = Ok m

  -- at most n records fed one after the other, from a cursor and a meaning on; or the first fault
  unfoldable pub fed_from : ℕ → Cursor → Meaning → Result Meaning RunFault
  fed_from zero c m = Ok m
  fed_from (suc n) c m = fed_on (answer_at c m) m (fed_from n (behind_record bs c) (meaning_at c m))
