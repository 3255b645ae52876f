-- The fields of a record, read one after the other by a loop. Assumes nothing.
use Rattle.std.proofs.Common.{◌≡◌, ℕ, zero, suc, ◌+◌, ◌<◌, ◌≤◌, true, false, List, [], ◌∷◌, ◌++◌, length, Some, None, Ok, Err, Option, Result, sym, refl, ap, ◌∙◌, append_assoc, append-nil, arith}
use Rattle.std.proofs.lemmas.List.{length_push}
use Rattle.std.proofs.lemmas.Bool.{true≢false, false≢true}
use Rattle.records.specs.Cursor.{Cursor, Seen, field_at, moved}
use Rattle.records.specs.RecordFields.{Row, then_rest, row_read, row_here, row_from, row}
use Rattle.records.specs.declared.cut.Next.{Next}
use Rattle.records.specs.declared.cut.Next.TheVariants.{Field, Record, End}
use Rattle.records.specs.declared.fault.RecordFault.{RecordFault}
use Rattle.records.specs.declared.fault.RecordFault.TheVariants.{Text}
use Rattle.records.specs.declared.fault.TextFault.{TextFault}
use Rattle.records.proofs.Follows.{is_field}

-- items read before the rest of a row
abbrev with_all : {A : Type 0} → List A → Result (Row A) RecordFault → Result (Row A) RecordFault
with_all xs (Ok r) = Ok (record { items = xs ++ r.items; after = r.after })
with_all xs (Err f) = Err f

none_before : {A : Type 0} (r : Result (Row A) RecordFault) → r ≡ with_all [] r
none_before (Ok r) = refl
none_before (Err f) = refl

one_before : {A : Type 0} (xs : List A) (x : A) (next : Next) (c : Cursor) (rest : Result (Row A) RecordFault) → is_field next ≡ true → with_all xs (then_rest x next c rest) ≡ with_all (xs ++ (x ∷ [])) rest
one_before xs x Field c (Ok r) e = ap (λ ys. Ok (record { items = ys; after = r.after })) (sym (append_assoc xs (x ∷ []) r.items))
one_before xs x Field c (Err f) e = refl
one_before xs x Record c rest e = absurd (false≢true e)
one_before xs x End c rest e = absurd (false≢true e)

nothing_behind : {A : Type 0} (x : A) (next : Next) (c : Cursor) (rest : Result (Row A) RecordFault) → is_field next ≡ false → then_rest x next c rest ≡ Ok (record { items = x ∷ []; after = c })
nothing_behind x Field c rest e = absurd (true≢false e)
nothing_behind x Record c rest e = refl
nothing_behind x End c rest e = refl

module _ {A : Type 0} (read : Seen → Result A RecordFault) (bs : List ℕ) where
  -- from `first` on the items xs are read, and the reader stands at c
  pub record Sofar (first c : Cursor) (xs : List A) : Type 0 where
    pub fuel : ℕ
    pub inside : c.at.byte ≤ length bs
    pub enough : length bs < fuel + c.at.byte
    pub few : fuel + length xs ≡ suc (length bs)
    pub whole : row read bs first ≡ with_all xs (row_from read fuel bs c)

  pub start : (c : Cursor) → c.at.byte ≤ length bs → Sofar c c []
  start c inside = record { fuel = suc (length bs); inside = inside; enough = omega arith; few = omega arith; whole = none_before (row read bs c) }

  module _ {first c : Cursor} {xs : List A} (old : Sofar first c xs) where
    -- one call more
    step : (o : Result (Option Seen) TextFault) → o ≡ field_at bs c → (n : ℕ) × (old.fuel ≡ suc n) × (row read bs first ≡ with_all xs (row_here read o (moved bs c) (row_from read n bs (moved bs c))))
    unfolding row_from
    step o e = go old.fuel old.enough refl
      where
        go : (fuel : ℕ) → length bs < fuel + c.at.byte → old.fuel ≡ fuel → (n : ℕ) × (old.fuel ≡ suc n) × (row read bs first ≡ with_all xs (row_here read o (moved bs c) (row_from read n bs (moved bs c))))
        go zero h is = absurd (omega (arith, old.inside))
        go (suc n) h is = (n, is, old.whole ∙ ap (λ m. with_all xs (row_from read m bs c)) is ∙ ap (λ r. with_all xs (row_here read r (moved bs c) (row_from read n bs (moved bs c)))) (sym e))

    pub broken : (f : TextFault) → Err f ≡ field_at bs c → row read bs first ≡ Err (Text f)
    broken f e = (step (Err f) e).2

    pub ended : Ok None ≡ field_at bs c → row read bs first ≡ Ok (record { items = xs; after = moved bs c })
    ended e = (step (Ok None) e).2 ∙ ap (λ ys. Ok (record { items = ys; after = moved bs c })) (append-nil xs)

    module _ (s : Seen) (yields : Ok (Some s) ≡ field_at bs c) where
      step_read : (r : Result A RecordFault) → read s ≡ r → (n : ℕ) × (old.fuel ≡ suc n) × (row read bs first ≡ with_all xs (row_read r s.next (moved bs c) (row_from read n bs (moved bs c))))
      step_read r e =
          let one = step (Ok (Some s)) yields in
          (one.0, one.1, one.2 ∙ ap (λ q. with_all xs (row_read q s.next (moved bs c) (row_from read one.0 bs (moved bs c)))) e)

      pub faulty : (f : RecordFault) → read s ≡ Err f → row read bs first ≡ Err f
      faulty f e = (step_read (Err f) e).2

      module _ (x : A) (reads : read s ≡ Ok x) where
        pub last : is_field s.next ≡ false → row read bs first ≡ Ok (record { items = xs ++ (x ∷ []); after = moved bs c })
        last not_field = (step_read (Ok x) reads).2 ∙ ap (with_all xs) (nothing_behind x s.next (moved bs c) _ not_field)

        pub one_more : is_field s.next ≡ true → c.at.byte < (moved bs c).at.byte → (moved bs c).at.byte ≤ length bs → Sofar first (moved bs c) (xs ++ (x ∷ []))
        one_more field on within =
            let one = step_read (Ok x) reads in
            record {
              fuel = one.0;
              inside = within;
              enough = omega (arith, old.enough, one.1);
              few = omega (arith, old.few, one.1, length_push xs x);
              whole = one.2 ∙ one_before xs x s.next (moved bs c) _ field;
            }
