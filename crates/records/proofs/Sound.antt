-- What is read is a file that the grammar derives. Assumes nothing.
use Rattle.std.proofs.Common.{◌≡◌, ℕ, zero, suc, List, ◌∷◌, ◌++◌, Some, None, Option, refl, subst, arith}
use Rattle.std.proofs.lemmas.List.{append-nil, append_assoc}
use Rattle.records.specs.Bytes.{comma}
use Rattle.records.specs.Exact.{Table, before, joined}
use Rattle.records.specs.Rfc4180.{Field, last_field, then_field, File, last_record, last_line, then_record}
use Rattle.records.specs.declared.cut.Next.{Next}
use Rattle.records.proofs.FieldInFront.{Front, front_of, begins}
use Rattle.records.proofs.Follows.{Follows, file_end, last_line_end, comma_first, line_end_first}
use Rattle.records.proofs.Suffixes.{onward, read_on, read_from}

same_table : {bs : List ℕ} {qs rs : Table} → Some qs ≡ Some rs → File bs qs → File bs rs
same_table {bs} e file = subst (File bs) (cc) file

module _ {bs ds : List ℕ} (field : Field bs ds) where
  -- the field becomes the first of the file's first record
  before_comma : {cs : List ℕ} {rs : Table} → File cs rs → File (bs ++ (comma ∷ cs)) (before ds rs)
  before_comma (last_record r) = last_record (then_field field r)
  before_comma (last_line {bs = cs} r) = rw (← append_assoc bs (comma ∷ cs) _) (last_line (then_field field r))
  before_comma (then_record {bs = cs} r file) = rw (← append_assoc bs (comma ∷ cs) _) (then_record (then_field field r) file)

  -- the field in front, then what is read behind it
  before_rest : {t : List ℕ} {next : Next} {rs : Table} → Follows t next
      → (rest : Option Table) → ((qs : Table) → rest ≡ Some qs → File (onward next t) qs)
      → joined ds next rest ≡ Some rs → File (bs ++ t) rs
  before_rest file_end rest further e = same_table e (rw append-nil (last_record (last_field field)))
  before_rest last_line_end rest further e = same_table e (last_line (last_field field))
  before_rest comma_first None further e = absurd (grind arith)
  before_rest comma_first (Some qs) further e = same_table e (before_comma (further qs refl))
  before_rest line_end_first None further e = absurd (grind arith)
  before_rest line_end_first (Some qs) further e = same_table e (then_record (last_field field) (further qs refl))

pub file_from_read : (n : ℕ) (bs : List ℕ) {rs : Table} → read_from n bs ≡ Some rs → File bs rs
file_from_read zero bs e = absurd (grind arith)
file_from_read (suc n) bs {rs} e = from_front (front_of bs) refl e (λ cs qs e. file_from_read n cs e)
  where
    from_front : (f : Option Front) → front_of bs ≡ f → read_on f (read_from n) ≡ Some rs
        → ((cs : List ℕ) (qs : Table) → read_from n cs ≡ Some qs → File cs qs)
        → File bs rs
    from_front None is e further = absurd (grind arith)
    from_front (Some f) is e further =
        let b = begins bs is in
        let rest = onward f.next f.left in
        rw b.whole (before_rest b.field b.follows (read_from n rest) (further rest) e)
