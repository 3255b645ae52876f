-- The reader's answers without the references that they hold. Assumes nothing.
use Rattle.std.specs.Prelude.{ℕ, List, map, take, drop, Some, None, Ok, Err, Option, Result}
use Rattle.std.specs.Borrow.{Bor}
use Rattle.records.specs.Cursor.{Cursor, Seen}
use Rattle.records.specs.Firsts.{Firsts}
use Rattle.records.specs.declared.fault.RecordFault.{RecordFault}
use Rattle.records.specs.declared.fault.TextFault.{TextFault}
use Rattle.records.specs.declared.fields.Field.{Field}
use Rattle.records.specs.declared.fields.Fields.{Fields}
use Rattle.records.specs.declared.heading.Header.{Header}
use Rattle.records.specs.declared.kept.Kept.{Kept}

abbrev pub cursor : Fields → Cursor
cursor f = record { at = f.at; ended = f.ended }

abbrev pub seen_field : Field → Seen
seen_field f = record { text = f.text.now; quoted = f.quoted; at = f.at; next = f.next }

abbrev pub told_field : Result (Option Field) TextFault → Result (Option Seen) TextFault
told_field (Err f) = Err f
told_field (Ok None) = Ok None
told_field (Ok (Some f)) = Ok (Some (seen_field f))

abbrev pub firsts : {T : Type 0} → Kept T → Firsts T
firsts k = record { at = k.at; count = k.count; values = take k.count k.values; places = take k.count k.places }

-- the fields of a header, by the bytes that they lend
abbrev pub lent : Firsts (Bor (List ℕ)) → Firsts (List ℕ)
lent f = record { at = f.at; count = f.count; values = map (λ x. x.now) f.values; places = f.places }

abbrev pub titles : Header → List (List ℕ)
titles h = (lent (firsts h.kept)).values

-- the names, which are all fields but the first
abbrev pub names : Header → List (List ℕ)
names h = drop 1 (titles h)

abbrev pub told_header : Result Header RecordFault → Result (List (List ℕ)) RecordFault
told_header (Err f) = Err f
told_header (Ok h) = Ok (names h)
