-- The reader yields exactly what the grammar of RFC 4180 derives. Assumes nothing.
use Rattle.std.proofs.Common.{◌≡◌, ℕ, suc, List, length, Some, None, Option, sym, refl, ◌∙◌, arith}
use Rattle.records.specs.Cursor.{start}
use Rattle.records.specs.Exact.{Table, yielded, Exact}
use Rattle.records.specs.Rfc4180.{File}
use Rattle.records.proofs.Complete.{file_read}
use Rattle.records.proofs.Sound.{file_from_read}
use Rattle.records.proofs.Suffixes.{read_from, yielded_from_is_read_from}

module _ (bs : List ℕ) where
  yielded_is_read : yielded bs ≡ read_from (suc (length bs)) bs
  yielded_is_read = yielded_from_is_read_from (suc (length bs)) bs start.at

  sound : (rs : Table) → yielded bs ≡ Some rs → File bs rs
  sound rs e = file_from_read (suc (length bs)) bs (sym yielded_is_read ∙ e)

  complete : (rs : Table) → File bs rs → yielded bs ≡ Some rs
  complete rs file = yielded_is_read ∙ file_read file (suc (length bs)) (omega arith)

  pub exact : Exact bs
  exact = record {
    sound = sound;
    complete = complete;
    only = λ rs ss one other. let e = complete rs one in let f = complete ss other in cc;
    refused = λ none rs file. let e = complete rs file in grind arith;
    underived = λ no_file. cases (yielded bs) refl no_file;
  }
    where
      cases : (o : Option Table) → yielded bs ≡ o → ((rs : Table) → File bs rs → ⊥) → yielded bs ≡ None
      cases None e no_file = e
      cases (Some rs) e no_file = absurd (no_file rs (sound rs e))
