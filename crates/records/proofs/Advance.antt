-- Where another field of the record follows, the reader goes forward in the bytes. Assumes nothing.
use Rattle.std.proofs.Common.{◌≡◌, ℕ, ◌<◌, Bool, true, false, cond, List, drop, Some, None, Ok, Option, ap, ◌∙◌, arith}
use Rattle.std.proofs.lemmas.Bool.{false≢true}
use Rattle.records.specs.Cursor.{Cursor, Seen, field_at, field_here, moved, moved_past, behind}
use Rattle.records.specs.Fields.{cut}
use Rattle.records.specs.declared.cut.Cut.{Cut}
use Rattle.records.specs.declared.cut.Next.{Next}
use Rattle.records.specs.declared.cut.Next.TheVariants.{Field, Record, End}
use Rattle.records.proofs.Follows.{is_field}

module _ (bs : List ℕ) (c : Cursor) (s : Seen) (field : is_field s.next ≡ true) where
  past : (k : Cut) (next : Next) → is_field next ≡ true → c.at.byte < (behind bs c.at k next).byte
  past k Field e = omega arith
  past k Record e = absurd (false≢true e)
  past k End e = absurd (false≢true e)

  from_cut : (ended : Bool) (k : Option Cut) → cond ended (Ok None) (field_here bs c.at k) ≡ Ok (Some s) → c.at.byte < (cond ended c (moved_past bs c k)).at.byte
  from_cut true k e = absurd (let z : ◌≡◌ {A = ℕ} 0 1 = cc in omega arith)
  from_cut false None e = absurd (let z : ◌≡◌ {A = ℕ} 0 1 = cc in omega arith)
  from_cut false (Some k) e = past k k.next (let same : k.next ≡ s.next = cc in ap is_field same ∙ field)

  pub advances : field_at bs c ≡ Ok (Some s) → c.at.byte < (moved bs c).at.byte
  advances e = from_cut c.ended (cut (drop c.at.byte bs)) e
