-- The fields of one record, each read in some way: as a number, or as a name. Assumes nothing.
use Rattle.std.specs.Prelude.{ℕ, zero, suc, List, [], ◌∷◌, length, Some, None, Ok, Err, Option, Result}
use Rattle.records.specs.Cursor.{Cursor, Seen, field_at, moved}
use Rattle.records.specs.declared.cut.Next.{Next}
use Rattle.records.specs.declared.cut.Next.TheVariants.{Field, Record, End}
use Rattle.records.specs.declared.fault.RecordFault.{RecordFault}
use Rattle.records.specs.declared.fault.RecordFault.TheVariants.{Text}
use Rattle.records.specs.declared.fault.TextFault.{TextFault}

-- what the fields of a record gave, and where the reader stands behind it
pub record Row (A : Type 0) : Type 0 where
  pub items : List A
  pub after : Cursor

module _ {A : Type 0} where
  -- a row with one field more at its left
  abbrev pub with_first : A → Result (Row A) RecordFault → Result (Row A) RecordFault
  with_first x (Ok r) = Ok (record { items = x ∷ r.items; after = r.after })
  with_first x (Err f) = Err f

  -- one field, with the rest of its record where another field of it follows
  abbrev pub then_rest : A → Next → Cursor → Result (Row A) RecordFault → Result (Row A) RecordFault
  then_rest x Field c rest = with_first x rest
  then_rest x Record c rest = Ok (record { items = x ∷ []; after = c })
  then_rest x End c rest = Ok (record { items = x ∷ []; after = c })

  -- that, where the field could be read: else why it is refused
  abbrev pub row_read : Result A RecordFault → Next → Cursor → Result (Row A) RecordFault → Result (Row A) RecordFault
  row_read (Err f) next c rest = Err f
  row_read (Ok x) next c rest = then_rest x next c rest

  module _ (read : Seen → Result A RecordFault) where
    -- the next field, read from what the reader of fields yields
    abbrev pub row_here : Result (Option Seen) TextFault → Cursor → Result (Row A) RecordFault → Result (Row A) RecordFault
    row_here (Err f) c rest = Err (Text f)
    row_here (Ok None) c rest = Ok (record { items = []; after = c })
    row_here (Ok (Some s)) c rest = row_read (read s) s.next c rest

    -- at most n fields
    unfoldable pub row_from : ℕ → List ℕ → Cursor → Result (Row A) RecordFault
    row_from zero bs c = Ok (record { items = []; after = c })
    row_from (suc n) bs c = row_here (field_at bs c) (moved bs c) (row_from n bs (moved bs c))

    -- All fields of the record, or the first fault from the left. Each field but the last has a comma behind it, so there are at most as many others as bytes.
    abbrev pub row : List ℕ → Cursor → Result (Row A) RecordFault
    row bs c = row_from (suc (length bs)) bs c

-- behind a row, if it was read, else at c
abbrev pub behind_row : {A : Type 0} → Result (Row A) RecordFault → Cursor → Cursor
behind_row (Err f) c = c
behind_row (Ok r) c = r.after

-- an answer by what it says
abbrev pub map_ok : {A D : Type 0} → (A → D) → Result A RecordFault → Result D RecordFault
map_ok says (Err f) = Err f
map_ok says (Ok x) = Ok (says x)

-- what the items of a row come to
abbrev pub gathered : {A D : Type 0} → (List A → D) → Result (Row A) RecordFault → Result D RecordFault
gathered of (Err f) = Err f
gathered of (Ok r) = Ok (of r.items)
