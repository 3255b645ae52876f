-- What a header is: `stay`, and then 1 to 16 names. Assumes nothing.
use Rattle.std.specs.Prelude.{ℕ, ◌+◌, Bool, cond, not, ◌&&◌, ◌||◌, List, [], ◌∷◌, ◌++◌, length, drop, is_ok, Some, None, Ok, Err, codes, Option, Result, ◌==◌, nat_le}
use Rattle.std.specs.Option.{unwrap_or}
use Rattle.std.specs.Int.{is_in_range}
use Rattle.std.specs.List.{list_all, list_any, slice_get}
use Rattle.std.specs.Str.{bytes_eq}
use Rattle.records.specs.Bytes.{quote}
use Rattle.records.specs.Cursor.{Cursor, Seen}
use Rattle.records.specs.Firsts.{Firsts, firsts_of, kept_fields}
use Rattle.records.specs.RecordFields.{Row, row, behind_row, gathered}
use Rattle.records.specs.declared.fault.Position.{Position}
use Rattle.records.specs.declared.fault.RecordFault.{RecordFault}
use Rattle.records.specs.declared.fault.RecordFault.TheVariants as fault

-- a byte list holds a byte
abbrev pub holds : List ℕ → ℕ → Bool
holds bs b = list_any (λ x. x == b) bs

-- a header field, in which no quote may stand
abbrev pub title : Seen → Result Seen RecordFault
title s = cond (holds s.text quote) (Err (fault.Quote s.at)) (Ok s)

abbrev pub titles_at : List ℕ → Cursor → Result (Row Seen) RecordFault
titles_at bs c = row title bs c

-- what a name is made of: the printable characters of ASCII, but for braces
abbrev pub name_byte : ℕ → Bool
name_byte b = is_in_range 0x20 0x7E b && not (b == 0x7B || b == 0x7D)

abbrev pub name_bytes : List ℕ → Bool
name_bytes bs = list_all name_byte bs

abbrev pub lawful_name : List ℕ → Bool
lawful_name bs = is_in_range 1 64 (length bs) && name_bytes bs

-- a name stands among others
abbrev pub among : List (List ℕ) → List ℕ → Bool
among ns name = list_any (λ n. bytes_eq n name) ns

abbrev pub stay_name : List ℕ
stay_name = codes "stay"

-- a field may stand behind these: the first is `stay`, and each other is a lawful name that did not stand before
abbrev pub may_stand : List (List ℕ) → List ℕ → Bool
may_stand [] name = bytes_eq name stay_name
may_stand (n ∷ ns) name = lawful_name name && not (among (n ∷ ns) name)

-- the number of the first field that may not stand where it does, behind the fields `before`, where i is the number of the next one
abbrev pub first_bad : List (List ℕ) → List (List ℕ) → ℕ → Option ℕ
first_bad [] before i = None
first_bad (n ∷ ns) before i = cond (may_stand before n) (first_bad ns (before ++ (n ∷ [])) (i + 1)) (Some i)

abbrev pub bad_title : List (List ℕ) → Option ℕ
bad_title ns = first_bad ns [] 0

abbrev pub named_by : Firsts (List ℕ) → Option ℕ → Result (List (List ℕ)) RecordFault
named_by f (Some i) = Err (fault.Name (unwrap_or (slice_get f.places i) f.at))
named_by f None = Ok (drop 1 f.values)

-- the names of a header with these fields: their number is looked at first, then each from the left
abbrev pub names_by : Firsts (List ℕ) → Result (List (List ℕ)) RecordFault
names_by f = cond (is_in_range 2 kept_fields f.count) (named_by f (bad_title f.values)) (Err (fault.Width f.at))

abbrev pub names_of : Result (Firsts (List ℕ)) RecordFault → Result (List (List ℕ)) RecordFault
names_of (Err e) = Err e
names_of (Ok f) = names_by f

abbrev pub titles_of : Position → List Seen → Firsts (List ℕ)
titles_of p ss = firsts_of (λ s. s.text) (λ s. s.at) p ss

-- The names of the columns: refused for more than 65,536 bytes, then at the first field that breaks RFC 4180 or holds a quote, then for the number of fields, then at the first field that may not stand there.
abbrev pub names_at : List ℕ → Cursor → Result (List (List ℕ)) RecordFault
names_at bs c = cond (nat_le (length bs) 65536) (names_of (gathered (titles_of c.at) (titles_at bs c))) (Err fault.TooLong)

-- where the reader then stands: behind the header, and where it was if that is refused
abbrev pub behind_header : List ℕ → Cursor → Cursor
behind_header bs c = cond (is_ok (names_at bs c)) (behind_row (titles_at bs c) c) c

-- the number of the column of a name, counted on from i
abbrev pub column_from : List (List ℕ) → List ℕ → ℕ → Option ℕ
column_from [] name i = None
column_from (n ∷ ns) name i = cond (bytes_eq n name) (Some i) (column_from ns name (i + 1))
