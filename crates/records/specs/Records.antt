-- What a data record says: the stay and the values, as whole numbers of at most 10^9. Assumes nothing.
use Rattle.std.specs.Prelude.{ℕ, ◌+◌, cond, List, [], ◌∷◌, drop, ℤ, pos, is_some, is_ok, Some, None, Ok, Err, Option, Result, ◌==◌}
use Rattle.std.specs.Option.{unwrap_or}
use Rattle.std.specs.List.{slice_get}
use Rattle.records.specs.Cursor.{Cursor, Seen}
use Rattle.records.specs.Firsts.{Firsts, firsts_of, with_one}
use Rattle.records.specs.Numerals.{numeral, limited}
use Rattle.records.specs.RecordFields.{Row, row, behind_row, gathered}
use Rattle.records.specs.Told.{firsts}
use Rattle.records.specs.declared.fault.Position.{Position}
use Rattle.records.specs.declared.fault.RecordFault.{RecordFault}
use Rattle.records.specs.declared.fault.RecordFault.TheVariants as fault
use Rattle.records.specs.declared.numbers.Draft.{Draft}
use Rattle.records.specs.declared.numbers.Entry.{Entry}
use Rattle.records.specs.declared.numbers.Record.{Record}
use Rattle.records.specs.declared.numeral.Numeral.{Numeral}

-- a number field; its value is None beyond 10^9
abbrev pub entry_by : Seen → Option Numeral → Result Entry RecordFault
entry_by s None = Err (fault.Numeral s.at)
entry_by s (Some n) = Ok (record { at = s.at; value = limited 1000000000 n })

abbrev pub entry : Seen → Result Entry RecordFault
entry s = entry_by s (numeral s.text)

abbrev pub entries_at : List ℕ → Cursor → Result (Row Entry) RecordFault
entries_at bs c = row entry bs c

-- the first field beyond the limit
abbrev pub beyond : List Entry → Option Position
beyond [] = None
beyond (e ∷ es) = cond (is_some e.value) (beyond es) (Some e.at)

-- a record that is being read, and the first field of it beyond the limit
pub record Drafted : Type 0 where
  pub numbers : Firsts ℤ
  pub beyond : Option Position

abbrev pub draft_of : Position → List Entry → Drafted
draft_of p es = record { numbers = firsts_of (λ e. unwrap_or e.value (pos 0)) (λ e. e.at) p es; beyond = beyond es }

abbrev pub drafted : Draft → Drafted
drafted d = record { numbers = firsts d.kept; beyond = d.beyond }

abbrev pub first_beyond : Option Position → Entry → Option Position
first_beyond (Some p) e = Some p
first_beyond None e = cond (is_some e.value) None (Some e.at)

abbrev pub with_entry : Drafted → Entry → Drafted
with_entry d e = record { numbers = with_one d.numbers (unwrap_or e.value (pos 0)) e.at; beyond = first_beyond d.beyond e }

abbrev pub record_by : Firsts ℤ → Option Position → Result (Option (Firsts ℤ)) RecordFault
record_by n (Some p) = Err (fault.Limit p)
record_by n None = Ok (Some n)

abbrev pub record_of : Result Drafted RecordFault → Result (Option (Firsts ℤ)) RecordFault
record_of (Err f) = Err f
record_of (Ok d) = record_by d.numbers d.beyond

-- The next record: refused at its first field that breaks RFC 4180 or is no whole numeral, then at its first one beyond 10^9. None once the file has ended.
abbrev pub record_at : List ℕ → Cursor → Result (Option (Firsts ℤ)) RecordFault
record_at bs c = cond c.ended (Ok None) (record_of (gathered (draft_of c.at) (entries_at bs c)))

-- where the reader then stands: behind the record, and where it was if that is refused or the file has ended
abbrev pub behind_record : List ℕ → Cursor → Cursor
behind_record bs c = cond (is_ok (record_at bs c)) (cond c.ended c (behind_row (entries_at bs c) c)) c

abbrev pub numbers_of : Record → Firsts ℤ
numbers_of r = firsts r.fields

-- the stay, and the values that are kept
abbrev pub stay_of : Firsts ℤ → ℤ
stay_of f = unwrap_or (slice_get f.values 0) (pos 0)

abbrev pub values_of : Firsts ℤ → List ℤ
values_of f = drop 1 f.values

-- a record must have the stay and one value for each of the header's columns
abbrev pub width_fault : Firsts ℤ → ℕ → Result Unit RecordFault
width_fault f width = cond (f.count == width + 1) (Ok tt) (Err (fault.Width f.at))

abbrev pub told_record : Result (Option Record) RecordFault → Result (Option (Firsts ℤ)) RecordFault
told_record (Err f) = Err f
told_record (Ok None) = Ok None
told_record (Ok (Some r)) = Ok (Some (numbers_of r))
