-- What the reader of fields yields from a place on, and where it stands then. Assumes nothing.
use Rattle.std.specs.Prelude.{ℕ, ◌+◌, ◌-◌, Bool, true, false, cond, List, [], ◌∷◌, length, take, drop, Some, None, Ok, Err, Option, Result, ◌==◌}
use Rattle.records.specs.Bytes.{quote}
use Rattle.records.specs.Fields.{cut, is_end}
use Rattle.records.specs.declared.cut.Cut.{Cut}
use Rattle.records.specs.declared.cut.Next.{Next}
use Rattle.records.specs.declared.cut.Next.TheVariants.{Field, Record, End}
use Rattle.records.specs.declared.fault.Position.{Position}
use Rattle.records.specs.declared.fault.TextFault.{TextFault}

-- where the next field begins, and whether the file has ended instead
pub record Cursor : Type 0 where
  pub at : Position
  pub ended : Bool

abbrev pub start : Cursor
start = record { at = record { row = 0; column = 0; byte = 0 }; ended = false }

-- a field as it stands in the bytes: what is between its quotes, if it has them, with doubled quotes still doubled
pub record Seen : Type 0 where
  pub text : List ℕ
  pub quoted : Bool
  pub at : Position
  pub next : Next

abbrev pub text_of : List ℕ → Cut → List ℕ
text_of bs k = cond k.quoted (take (k.size - 2) (drop 1 bs)) (take k.size bs)

abbrev pub seen : List ℕ → Position → Cut → Seen
seen bs p k = record { text = text_of (drop p.byte bs) k; quoted = k.quoted; at = p; next = k.next }

abbrev pub field_here : List ℕ → Position → Option Cut → Result (Option Seen) TextFault
field_here bs p None = Err (record { at = p })
field_here bs p (Some k) = Ok (Some (seen bs p k))

-- the next field; None once the file has ended
abbrev pub field_at : List ℕ → Cursor → Result (Option Seen) TextFault
field_at bs c = cond c.ended (Ok None) (field_here bs c.at (cut (drop c.at.byte bs)))

abbrev pub behind : List ℕ → Position → Cut → Next → Position
behind bs p k Field = record { row = p.row; column = p.column + 1; byte = p.byte + k.size + 1 }
behind bs p k Record = record { row = p.row + 1; column = 0; byte = p.byte + k.size + 2 }
behind bs p k End = record { row = p.row; column = p.column; byte = length bs }

abbrev pub moved_past : List ℕ → Cursor → Option Cut → Cursor
moved_past bs c None = c
moved_past bs c (Some k) = record { at = behind bs c.at k k.next; ended = is_end k.next }

-- where the reader then stands: behind that field, and where it was if there is none
abbrev pub moved : List ℕ → Cursor → Cursor
moved bs c = cond c.ended c (moved_past bs c (cut (drop c.at.byte bs)))

-- a quoted text with each doubled quote made one; `pending` says that a first quote came just before
abbrev pub undoubled : List ℕ → Bool → List ℕ
undoubled [] pending = []
undoubled (b ∷ bs) true = undoubled bs false
undoubled (b ∷ bs) false = b ∷ undoubled bs (b == quote)

-- what a field says
abbrev pub content : Seen → List ℕ
content s = cond s.quoted (undoubled s.text false) s.text
