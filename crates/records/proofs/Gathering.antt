-- A loop that reads the fields of a record one after the other and gathers what they come to. Assumes nothing.
use Rattle.std.proofs.Common.{◌≡◌, ℕ, ◌<◌, ◌≤◌, true, false, List, [], ◌∷◌, ◌++◌, length, Some, None, Ok, Err, Option, Result, sym, refl, ap, ◌∙◌, subst, arith, Bor}
use Rattle.records.specs.Cursor.{Cursor, Seen, field_at, moved}
use Rattle.records.specs.RecordFields.{row, behind_row, gathered, map_ok}
use Rattle.records.specs.Told.{told_field}
use Rattle.records.specs.declared.fault.RecordFault.{RecordFault}
use Rattle.records.specs.declared.fault.RecordFault.TheVariants.{Text}
use Rattle.records.specs.declared.fault.TextFault.{TextFault}
use Rattle.records.specs.declared.fields.Field.{Field}
use Rattle.records.proofs.Advance.{advances}
use Rattle.records.proofs.Follows.{is_field}
use Rattle.records.proofs.OneRecord.{Sofar, start, broken, ended, faulty, last, one_more}

-- How a field is read as an item, and what items come to.
pub record Way (A D : Type 0) : Type 0 where
  pub read : Seen → Result A RecordFault
  pub of : List A → D

-- one call that yields a field at the cursor c and leaves d
pub record Call (bs : List ℕ) (c d : Cursor) (r : Result (Option Seen) TextFault) : Type 0 where
  pub told : r ≡ field_at bs c
  pub on : d ≡ moved bs c

-- a call speaks of the bytes that the reader holds, which stay the same
pub called : {here bytes : Bor (List ℕ)} {c d : Cursor} {r answer : Result (Option Field) TextFault} → here ≡ bytes → told_field r ≡ field_at here.now c → d ≡ moved here.now c → r ≡ answer → Call bytes.now c d (told_field answer)
called {here} {bytes} {c} {d} {r} {answer} same told on is = record {
  told = subst (λ b. told_field answer ≡ field_at b.now c) same (sym (ap told_field is) ∙ told);
  on = subst (λ b. d ≡ moved b.now c) same on;
}

module _ {A D : Type 0} (way : Way A D) where
  -- what is gathered from `first` on up to the cursor c
  pub record Reading (bs : List ℕ) (first c : Cursor) (sum : D) : Type 0 where
    pub items : List A
    pub sofar : Sofar way.read bs first c items
    pub held : sum ≡ way.of items

  -- all of the record at `first` is gathered, and d is behind it
  pub record Whole (bs : List ℕ) (first d : Cursor) (sum : D) : Type 0 where
    pub answer : Ok sum ≡ gathered way.of (row way.read bs first)
    pub after : d ≡ behind_row (row way.read bs first) first

  pub begin : (bs : List ℕ) (c : Cursor) (sum : D) → c.at.byte ≤ length bs → sum ≡ way.of [] → Reading bs c c sum
  begin bs c sum inside held = record { items = []; sofar = start way.read bs c inside; held = held }

  module _ {bs : List ℕ} {first c d : Cursor} {sum : D} (old : Reading bs first c sum) where
    whole : (xs : List A) (new : D) → d ≡ moved bs c → new ≡ way.of xs → row way.read bs first ≡ Ok (record { items = xs; after = moved bs c }) → Whole bs first d new
    whole xs new on held row_is = record {
      answer = ap Ok held ∙ sym (ap (gathered way.of) row_is);
      after = on ∙ sym (ap (λ r. behind_row r first) row_is);
    }

    pub text_refused : (f : TextFault) → Call bs c d (Err f) → gathered way.of (row way.read bs first) ≡ Err (Text f)
    text_refused f call = ap (gathered way.of) (broken way.read bs old.sofar f call.told)

    pub no_more : Call bs c d (Ok None) → Whole bs first d sum
    no_more call = whole old.items sum call.on old.held (ended way.read bs old.sofar call.told)

    module _ (s : Seen) (call : Call bs c d (Ok (Some s))) where
      pub field_refused : (f : RecordFault) → Err f ≡ map_ok (λ x. way.of (old.items ++ (x ∷ []))) (way.read s) → gathered way.of (row way.read bs first) ≡ Err f
      field_refused f e = ap (gathered way.of) (faulty way.read bs old.sofar s call.told f (read_err (way.read s) e))
        where
          read_err : (r : Result A RecordFault) → Err f ≡ map_ok (λ x. way.of (old.items ++ (x ∷ []))) r → r ≡ Err f
          read_err (Err g) e = cc
          read_err (Ok x) e = absurd (let z : ◌≡◌ {A = ℕ} 0 1 = cc in omega arith)

      module _ {new : D} (taken : Ok new ≡ map_ok (λ x. way.of (old.items ++ (x ∷ []))) (way.read s)) where
        item : (r : Result A RecordFault) → way.read s ≡ r → Ok new ≡ map_ok (λ x. way.of (old.items ++ (x ∷ []))) r → (x : A) × (way.read s ≡ Ok x) × (new ≡ way.of (old.items ++ (x ∷ [])))
        item (Err g) is e = absurd (let z : ◌≡◌ {A = ℕ} 0 1 = cc in omega arith)
        item (Ok x) is e = (x, is, cc)

        pub at_last : is_field s.next ≡ false → Whole bs first d new
        at_last not_field =
            let one = item (way.read s) refl taken in
            whole _ _ call.on one.2 (last way.read bs old.sofar s call.told one.0 one.1 not_field)

        pub goes_on : is_field s.next ≡ true → d.at.byte ≤ length bs → Reading bs first d new × (c.at.byte < d.at.byte)
        goes_on field inside =
            let one = item (way.read s) refl taken in
            let items = old.items ++ (one.0 ∷ []) in
            let further = advances bs c s field (sym call.told) in
            let more = one_more way.read bs old.sofar s call.told one.0 one.1 field further (subst (λ e. e.at.byte ≤ length bs) call.on inside) in (
              record { items = items; sofar = subst (λ e. Sofar way.read bs first e items) (sym call.on) more; held = one.2 },
              subst (λ e. c.at.byte < e.at.byte) (sym call.on) further,
            )
