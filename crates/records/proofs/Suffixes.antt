-- What the reader yields from a cursor on depends only on the bytes from there on. Assumes nothing.
use Rattle.std.proofs.Common.{◌≡◌, ℕ, zero, suc, false, List, [], drop, Some, None, Option, refl, ap}
use Rattle.std.specs.Option.{option_map}
use Rattle.std.proofs.lemmas.List.{drop-drop}
use Rattle.records.specs.Cursor.{field_here, moved_past, behind}
use Rattle.records.specs.Exact.{Table, joined, yields, yielded_from}
use Rattle.records.specs.Fields.{cut, is_end}
use Rattle.records.specs.declared.cut.Cut.{Cut}
use Rattle.records.specs.declared.cut.Next.{Next}
use Rattle.records.specs.declared.fault.Position.{Position}
use Rattle.records.proofs.FieldInFront.{Front, front_at, front_of, said}

-- of the bytes behind a field, those from the next field on
abbrev pub onward : Next → List ℕ → List ℕ
onward Next.Field t = drop 1 t
onward Next.Record t = drop 2 t
onward Next.End t = []

abbrev pub read_on : Option Front → (List ℕ → Option Table) → Option Table
read_on None rest = None
read_on (Some f) rest = joined f.says f.next (rest (onward f.next f.left))

-- as yielded_from, with the bytes left in place of a cursor
abbrev pub read_from : ℕ → List ℕ → Option Table
read_from zero bs = None
read_from (suc n) bs = read_on (front_of bs) (read_from n)

module _ (n : ℕ) (bs : List ℕ) (p : Position)
    (further : (q : Position) → yielded_from n bs (record { at = q; ended = false }) ≡ read_from n (drop q.byte bs)) where
  behind_field : (d : List ℕ) (k : Cut) (next : Next)
      → joined d next (yielded_from n bs (record { at = behind bs p k next; ended = is_end next }))
      ≡ joined d next (read_from n (onward next (drop k.size (drop p.byte bs))))
  behind_field d k Next.Field = ap (joined d Next.Field) (rw (drop-drop k.size p.byte bs, drop-drop) (further _))
  behind_field d k Next.Record = ap (joined d Next.Record) (rw (drop-drop k.size p.byte bs, drop-drop) (further _))
  behind_field d k Next.End = refl

  from_cut : (k : Option Cut)
      → yields (field_here bs p k) (yielded_from n bs (moved_past bs (record { at = p; ended = false }) k))
      ≡ read_on (option_map (front_at (drop p.byte bs)) k) (read_from n)
  from_cut None = refl
  from_cut (Some k) = behind_field (said (drop p.byte bs) k) k k.next

pub yielded_from_is_read_from : (n : ℕ) (bs : List ℕ) (p : Position)
    → yielded_from n bs (record { at = p; ended = false }) ≡ read_from n (drop p.byte bs)
unfolding yielded_from
yielded_from_is_read_from zero bs p = refl
yielded_from_is_read_from (suc n) bs p = from_cut n bs p (yielded_from_is_read_from n bs) (cut (drop p.byte bs))
