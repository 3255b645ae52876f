-- The law of the reader: what it yields is what the grammar of RFC 4180 derives. Assumes nothing.
use Rattle.std.specs.Prelude.{◌≡◌, ℕ, zero, suc, List, [], ◌∷◌, length, Some, None, Ok, Err, Option, Result}
use Rattle.std.specs.Option.{option_map}
use Rattle.records.specs.Cursor.{Cursor, Seen, start, field_at, moved, content}
use Rattle.records.specs.Rfc4180.{File}
use Rattle.records.specs.declared.cut.Next.{Next}
use Rattle.records.specs.declared.cut.Next.TheVariants.{Field, Record, End}
use Rattle.records.specs.declared.fault.TextFault.{TextFault}

-- a file's records, each a list of what its fields say
abbrev pub Table : Type 0
Table = List (List (List ℕ))

-- one field more in front of the first record
abbrev pub before : List ℕ → Table → Table
before d [] = (d ∷ []) ∷ []
before d (fs ∷ rs) = (d ∷ fs) ∷ rs

-- a field, and what is yielded behind it
abbrev pub joined : List ℕ → Next → Option Table → Option Table
joined d Field rest = option_map (before d) rest
joined d Record rest = option_map (λ rs. (d ∷ []) ∷ rs) rest
joined d End rest = Some ((d ∷ []) ∷ [])

abbrev pub yields : Result (Option Seen) TextFault → Option Table → Option Table
yields (Err f) rest = None
yields (Ok None) rest = None
yields (Ok (Some s)) rest = joined (content s) s.next rest

-- what at most n calls yield, one after the other, from a cursor to the end of the file; None if one refuses
unfoldable pub yielded_from : ℕ → List ℕ → Cursor → Option Table
yielded_from zero bs c = None
yielded_from (suc n) bs c = yields (field_at bs c) (yielded_from n bs (moved bs c))

-- Each field but the last has a comma or a line end behind it, so there are at most as many others as bytes.
abbrev pub yielded : List ℕ → Option Table
yielded bs = yielded_from (suc (length bs)) bs start

pub record Exact (bs : List ℕ) : Type 0 where
  -- what is yielded is derived, and what is derived is yielded
  pub sound : (rs : Table) → yielded bs ≡ Some rs → File bs rs
  pub complete : (rs : Table) → File bs rs → yielded bs ≡ Some rs
  -- a file has one reading
  pub only : (rs ss : Table) → File bs rs → File bs ss → rs ≡ ss
  -- it is refused exactly where there is none
  pub refused : yielded bs ≡ None → (rs : Table) → File bs rs → ⊥
  pub underived : ((rs : Table) → File bs rs → ⊥) → yielded bs ≡ None
