-- A file that the grammar derives is read as it is derived. Assumes nothing.
use Rattle.std.proofs.Common.{◌≡◌, ℕ, zero, suc, ◌<◌, ◌≤◌, List, [], ◌∷◌, ◌++◌, length, Some, refl, ap, ◌∙◌, arith}
use Rattle.std.proofs.lemmas.List.{append-nil, append_assoc, length-append}
use Rattle.records.specs.Bytes.{comma}
use Rattle.records.specs.Exact.{Table, joined}
use Rattle.records.specs.Rfc4180.{Field, Record, last_field, then_field, File, last_record, last_line, then_record}
use Rattle.records.specs.declared.cut.Next.{Next}
use Rattle.records.proofs.FieldInFront.{front_from_field}
use Rattle.records.proofs.Follows.{Follows, file_end, last_line_end, comma_first, line_end_first}
use Rattle.records.proofs.Suffixes.{onward, read_from}

field_read : {bs ds t : List ℕ} {next : Next} → Field bs ds → Follows t next → (n : ℕ)
    → read_from (suc n) (bs ++ t) ≡ joined ds next (read_from n (onward next t))
field_read field f n = rw (front_from_field f field)

-- A record before bytes t that end it, and behind which the records rs are read.
-- A field that another follows takes at least one byte, so n calls suffice for fewer than n bytes.
module _ {t : List ℕ} {next : Next} {rs : Table} (f : Follows t next)
    (behind : (ds : List ℕ) (n : ℕ) → length t ≤ n → joined ds next (read_from n (onward next t)) ≡ Some ((ds ∷ []) ∷ rs)) where
  record_read : {bs : List ℕ} {fs : List (List ℕ)} → Record bs fs → (n : ℕ) → length (bs ++ t) < n → read_from n (bs ++ t) ≡ Some (fs ∷ rs)
  record_read r zero h = absurd (omega arith)
  record_read (last_field {bs} {ds} field) (suc n) h = field_read field f n ∙ behind ds n (omega (arith, length-append bs t))
  record_read (then_field {bs} {ds} {cs} field r) (suc n) h =
      let fewer : length (cs ++ t) < n = omega (arith, simp length-append at h, length-append cs t) in
      rw (append_assoc bs (comma ∷ cs) t) (field_read field comma_first n ∙ ap (joined ds Next.Field) (record_read r n fewer))

pub file_read : {bs : List ℕ} {rs : Table} → File bs rs → (n : ℕ) → length bs < n → read_from n bs ≡ Some rs
file_read (last_record {bs} r) n h = rw append-nil at (record_read file_end (λ ds n h. refl) r n (rw append-nil h))
file_read (last_line r) n h = record_read last_line_end (λ ds n h. refl) r n h
file_read (then_record r file) n h = record_read line_end_first (λ ds n h. ap (joined ds Next.Record) (file_read file n (omega arith))) r n h
