-- The field that is cut off the front of some bytes is the one that the grammar derives there. Assumes nothing.
use Rattle.std.proofs.Common.{◌≡◌, ℕ, ◌+◌, ◌-◌, Bool, true, false, cond, eqb, List, [], ◌∷◌, ◌++◌, length, take, drop, Some, None, Option, sym, refl, ap, ◌∙◌, subst, subst₂, one-add, arith}
use Rattle.std.specs.Option.{option_map}
use Rattle.std.specs.List.{prefix_len}
use Rattle.std.proofs.lemmas.List.{append_assoc, length_push, take_at, drop_at, take-append-drop}
use Rattle.std.proofs.lemmas.Bool.{eqb-true}
use Rattle.records.specs.Bytes.{quote, text_data}
use Rattle.records.specs.Cursor.{text_of, undoubled}
use Rattle.records.specs.Fields.{following, closing, opens, size, cut, cut_at}
use Rattle.records.specs.Rfc4180.{NonEscaped, Field, escaped, non_escaped}
use Rattle.records.specs.declared.cut.Cut.{Cut}
use Rattle.records.specs.declared.cut.Next.{Next}
use Rattle.records.proofs.Follows.{Follows, following_from_follows, follows_from_following, no_quote_follows, no_text_follows}
use Rattle.records.proofs.Quotes.{text_no_quote, undoubled_quoted, closes, Closed, closed}

-- what a field says, what follows it, and the bytes behind it
pub record Front : Type 0 where
  pub says : List ℕ
  pub next : Next
  pub left : List ℕ

abbrev pub said : List ℕ → Cut → List ℕ
said bs k = cond k.quoted (undoubled (text_of bs k) false) (text_of bs k)

abbrev pub front_at : List ℕ → Cut → Front
front_at bs k = record { says = said bs k; next = k.next; left = drop k.size bs }

abbrev pub front_of : List ℕ → Option Front
front_of bs = option_map (front_at bs) (cut bs)

-- from the grammar to what is cut
module _ {t : List ℕ} {next : Next} (f : Follows t next) where
  front_from_size : {d : List ℕ} (bs : List ℕ) (n : ℕ) → size bs ≡ Some n → drop n bs ≡ t
      → said bs (record { size = n; quoted = opens bs; next = next }) ≡ d
      → front_of bs ≡ Some (record { says = d; next = next; left = t })
  front_from_size bs n sized behind says = rw (sized, behind, following_from_follows f) (cc)

  opens_with_no_quote : (bs : List ℕ) → NonEscaped bs → opens (bs ++ t) ≡ false
  opens_with_no_quote [] h = no_quote_follows f
  opens_with_no_quote (b ∷ bs) h = text_no_quote b h.0

  text_stops : (bs : List ℕ) → NonEscaped bs → prefix_len text_data (bs ++ t) ≡ length bs
  text_stops [] h = no_text_follows f
  text_stops (b ∷ bs) h = rw h.0 (omega (arith, text_stops bs h.1))

  pub front_from_field : {bs d : List ℕ} → Field bs d → front_of (bs ++ t) ≡ Some (record { says = d; next = next; left = t })
  front_from_field (escaped {bs} {ds} r) =
      let n : ℕ = 1 + length bs + 1 in
      front_from_size (quote ∷ (bs ++ (quote ∷ []) ++ t)) n
      (rw append_assoc (closes t (no_quote_follows f) r 1))
      (drop_at (quote ∷ (bs ++ (quote ∷ []))) t n (omega (arith, length_push bs quote)))
      (rw (append_assoc, take_at bs (quote ∷ t) (n - 2) (omega arith)) (undoubled_quoted r))
  front_from_field (non_escaped {bs} h) =
      front_from_size (bs ++ t) (length bs)
      (rw (opens_with_no_quote bs h) (ap Some (text_stops bs h)))
      (drop_at bs t (length bs) refl)
      (rw (opens_with_no_quote bs h) (take_at bs t (length bs) refl))

-- from what is cut to the grammar: bs begins with the bytes of a field
pub record Begins (bs : List ℕ) (f : Front) : Type 0 where
  pub bytes : List ℕ
  pub whole : bs ≡ bytes ++ f.left
  pub field : Field bytes f.says
  pub follows : Follows f.left f.next

text_leads : (bs : List ℕ) → NonEscaped (take (prefix_len text_data bs) bs)
text_leads [] = tt
text_leads (b ∷ bs) = which (text_data b) refl (text_leads bs)
  where
    which : (is_text : Bool) → text_data b ≡ is_text → NonEscaped (take (prefix_len text_data bs) bs)
        → NonEscaped (take (cond is_text (1 + prefix_len text_data bs) 0) (b ∷ bs))
    which true h behind = rw one-add (h, behind)
    which false h behind = tt

module _ {n : ℕ} where
  plain_field : (bs : List ℕ) → Some (prefix_len text_data bs) ≡ Some n → Field (take n bs) (take n bs)
  plain_field bs e = subst (λ m. Field (take m bs) (take m bs)) (cc) (non_escaped (text_leads bs))

  quoted_field : {bs : List ℕ} → Closed bs 1 n → Field (take n (quote ∷ bs)) (undoubled (take (n - 2) bs) false)
  quoted_field {bs} c = subst₂ Field (sym bytes) (sym says) (escaped c.quoted)
    where
      bytes : take n (quote ∷ bs) ≡ quote ∷ (c.body ++ (quote ∷ []))
      bytes =
          ap (λ s. take n (quote ∷ s)) (c.whole ∙ sym (append_assoc c.body (quote ∷ []) c.tail))
          ∙ take_at (quote ∷ (c.body ++ (quote ∷ []))) c.tail n (omega (arith, length_push c.body quote))

      says : undoubled (take (n - 2) bs) false ≡ undoubled c.body false
      says = ap (λ s. undoubled s false)
          (ap (take (n - 2)) c.whole ∙ take_at c.body (quote ∷ c.tail) (n - 2) (omega arith))

  field_from_size : (bs : List ℕ) (next : Next) → size bs ≡ Some n
      → Field (take n bs) (said bs (record { size = n; quoted = opens bs; next = next }))
  field_from_size [] next e = plain_field [] e
  field_from_size (b ∷ bs) next e = which (eqb b quote) refl e
    where
      which : (is_quote : Bool) → eqb b quote ≡ is_quote
          → cond is_quote (closing bs false 1) (Some (prefix_len text_data (b ∷ bs))) ≡ Some n
          → Field (take n (b ∷ bs)) (said (b ∷ bs) (record { size = n; quoted = is_quote; next = next }))
      which true is e = rw (eqb-true b quote is) (quoted_field (closed bs 1 e))
      which false is e = plain_field (b ∷ bs) e

pub begins : (bs : List ℕ) {f : Front} → front_of bs ≡ Some f → Begins bs f
begins bs {f} e = sized (size bs) refl e
  where
    followed : (n : ℕ) → size bs ≡ Some n → (next : Option Next) → following (drop n bs) ≡ next
        → option_map (front_at bs) (option_map (λ m. record { size = n; quoted = opens bs; next = m }) next) ≡ Some f → Begins bs f
    followed n is None _ e = absurd (grind arith)
    followed n is (Some next) h e = subst (Begins bs) (cc) (record {
      bytes = take n bs;
      whole = sym (take-append-drop n bs);
      field = field_from_size bs next is;
      follows = follows_from_following (drop n bs) h;
    })

    sized : (n : Option ℕ) → size bs ≡ n → option_map (front_at bs) (cut_at bs n) ≡ Some f → Begins bs f
    sized None _ e = absurd (grind arith)
    sized (Some n) is e = followed n is (following (drop n bs)) refl e
