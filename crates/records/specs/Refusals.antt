-- The number and the place of each fault of a record or a header. Assumes nothing.
use Rattle.std.specs.Prelude.{ℕ, List, ◌∷◌, ◌++◌, decimal}
use Rattle.records.specs.Bytes.{comma}
use Rattle.records.specs.Cursor.{start}
use Rattle.records.specs.declared.fault.Position.{Position}
use Rattle.records.specs.declared.fault.RecordFault.{RecordFault}
use Rattle.records.specs.declared.fault.RecordFault.TheVariants.{TooLong, Text, Quote, Numeral, Limit, Width, Name}
use Rattle.records.specs.declared.fault.Refusal.{Refusal}

abbrev pub number_of : RecordFault → ℕ
number_of TooLong = 1
number_of (Text f) = 8
number_of (Quote p) = 8
number_of (Numeral p) = 8
number_of (Limit p) = 3
number_of (Width p) = 9
number_of (Name p) = 9

-- the position of the faulty field, or of the record for its width; the size of a file is at fault from the first byte on
abbrev pub position_of : RecordFault → Position
position_of TooLong = start.at
position_of (Text f) = f.at
position_of (Quote p) = p
position_of (Numeral p) = p
position_of (Limit p) = p
position_of (Width p) = p
position_of (Name p) = p

abbrev pub refusal : RecordFault → Refusal
refusal f = record { number = number_of f; place = (position_of f).byte }

-- a refusal as it is printed: its number and its place
abbrev pub refusal_text : Refusal → List ℕ
refusal_text r = decimal r.number ++ (comma ∷ decimal r.place)
