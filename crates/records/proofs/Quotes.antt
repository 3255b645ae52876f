-- A quoted field closes exactly behind a text that the grammar lets stand between quotes. Assumes nothing.
use Rattle.std.proofs.Common.{◌≡◌, ℕ, ◌+◌, Bool, true, false, cond, ◌||◌, eqb, List, [], ◌∷◌, ◌++◌, length, Some, None, refl, ap, ◌∙◌, arith}
use Rattle.std.proofs.lemmas.Bool.{eqb-true}
use Rattle.std.proofs.lemmas.Bool.Decides.{nat_tests}
use Rattle.records.specs.Bytes.{comma, quote, cr, lf, text_data, quotable}
use Rattle.records.specs.Cursor.{undoubled}
use Rattle.records.specs.Fields.{closing, opens}
use Rattle.records.specs.Rfc4180.{Quoted, none, text, comma_in, cr_in, lf_in, two_quotes}

pub text_no_quote : (b : ℕ) → text_data b ≡ true → eqb b quote ≡ false
text_no_quote b h = grind (arith, nat_tests)

pub undoubled_quoted : {q d : List ℕ} → Quoted q d → undoubled q false ≡ d
undoubled_quoted none = refl
undoubled_quoted (text {b} h r) = rw (text_no_quote b h) (ap (λ d. b ∷ d) (undoubled_quoted r))
undoubled_quoted (comma_in r) = ap (λ d. comma ∷ d) (undoubled_quoted r)
undoubled_quoted (cr_in r) = ap (λ d. cr ∷ d) (undoubled_quoted r)
undoubled_quoted (lf_in r) = ap (λ d. lf ∷ d) (undoubled_quoted r)
undoubled_quoted (two_quotes r) = ap (λ d. quote ∷ d) (undoubled_quoted r)

closes_unless_doubled : (t : List ℕ) (n : ℕ) → opens t ≡ false → closing t true n ≡ Some n
closes_unless_doubled [] n h = refl
closes_unless_doubled (b ∷ bs) n h = rw h

module _ (t : List ℕ) (single : opens t ≡ false) where
  pub closes : {q d : List ℕ} → Quoted q d → (n : ℕ) → closing (q ++ (quote ∷ t)) false n ≡ Some (n + length q + 1)
  closes none n = closes_unless_doubled t (n + 1) single ∙ ap Some (omega arith)
  closes (text {b} h r) n = rw (text_no_quote b h, h) (closes r (n + 1) ∙ ap Some (omega arith))
  closes (comma_in r) n = closes r (n + 1) ∙ ap Some (omega arith)
  closes (cr_in r) n = closes r (n + 1) ∙ ap Some (omega arith)
  closes (lf_in r) n = closes r (n + 1) ∙ ap Some (omega arith)
  closes (two_quotes r) n = closes r (n + 1 + 1) ∙ ap Some (omega arith)

-- bs begins with a quoted text and the quote that closes it; with n bytes before bs that is a field of m bytes
pub record Closed (bs : List ℕ) (n m : ℕ) : Type 0 where
  pub body : List ℕ
  pub tail : List ℕ
  pub whole : bs ≡ body ++ (quote ∷ tail)
  pub size : m ≡ n + length body + 1
  pub quoted : Quoted body (undoubled body false)

quoted_more : (b : ℕ) {q d : List ℕ} → quotable b ≡ true → Quoted q d → Quoted (b ∷ q) (b ∷ d)
quoted_more b {q} {d} h r = which (text_data b) (eqb b comma) (eqb b cr) (eqb b lf) refl refl refl refl h
  where
    which : (is_text is_comma is_cr is_lf : Bool) → text_data b ≡ is_text → eqb b comma ≡ is_comma → eqb b cr ≡ is_cr → eqb b lf ≡ is_lf
        → (is_text || is_comma || is_cr || is_lf) ≡ true → Quoted (b ∷ q) (b ∷ d)
    which true _ _ _ is _ _ _ h = text is r
    which false true _ _ _ is _ _ h = rw (eqb-true b comma is) (comma_in r)
    which false false true _ _ _ is _ h = rw (eqb-true b cr is) (cr_in r)
    which false false false true _ _ _ is h = rw (eqb-true b lf is) (lf_in r)
    which false false false false _ _ _ _ h = absurd (grind arith)

module _ {m : ℕ} where
  closed_here : (bs : List ℕ) (n : ℕ) → Some (n + 1) ≡ Some m → Closed (quote ∷ bs) n m
  closed_here bs n e = record { body = []; tail = bs; whole = refl; size = let s : n + 1 ≡ m = cc in omega arith; quoted = none }

  closed_more : (b : ℕ) (bs : List ℕ) (n : ℕ) → eqb b quote ≡ false → quotable b ≡ true → Closed bs (n + 1) m → Closed (b ∷ bs) n m
  closed_more b bs n no_quote h c = record {
    body = b ∷ c.body;
    tail = c.tail;
    whole = ap (λ s. b ∷ s) c.whole;
    size = omega arith;
    quoted = rw no_quote (quoted_more b h c.quoted);
  }

  closed_two_more : (bs : List ℕ) (n : ℕ) → Closed bs (n + 1 + 1) m → Closed (quote ∷ quote ∷ bs) n m
  closed_two_more bs n c = record {
    body = quote ∷ quote ∷ c.body;
    tail = c.tail;
    whole = ap (λ s. quote ∷ quote ∷ s) c.whole;
    size = omega arith;
    quoted = two_quotes c.quoted;
  }

  -- A pending quote counts as unread, so that a pair of quotes is met as a whole.
  closed_from : (bs : List ℕ) (pending : Bool) (n : ℕ) → closing bs pending (cond pending (n + 1) n) ≡ Some m
      → Closed (cond pending (quote ∷ bs) bs) n m
  closed_from [] true n e = closed_here [] n e
  closed_from [] false n e = absurd (grind arith)
  closed_from (b ∷ bs) true n e = which (eqb b quote) refl e (closed_from bs false (n + 1 + 1))
    where
      which : (is_quote : Bool) → eqb b quote ≡ is_quote → cond is_quote (closing bs false (n + 1 + 1)) (Some (n + 1)) ≡ Some m
          → (closing bs false (n + 1 + 1) ≡ Some m → Closed bs (n + 1 + 1) m)
          → Closed (quote ∷ b ∷ bs) n m
      which true is e behind = rw (eqb-true b quote is) (closed_two_more bs n (behind e))
      which false is e behind = closed_here (b ∷ bs) n e
  closed_from (b ∷ bs) false n e = which (eqb b quote) (quotable b) refl refl e (closed_from bs true n) (closed_from bs false (n + 1))
    where
      which : (is_quote is_quotable : Bool) → eqb b quote ≡ is_quote → quotable b ≡ is_quotable
          → cond is_quote (closing bs true (n + 1)) (cond is_quotable (closing bs false (n + 1)) None) ≡ Some m
          → (closing bs true (n + 1) ≡ Some m → Closed (quote ∷ bs) n m)
          → (closing bs false (n + 1) ≡ Some m → Closed bs (n + 1) m)
          → Closed (b ∷ bs) n m
      which true _ is _ e at_quote behind = rw (eqb-true b quote is) (at_quote e)
      which false true is h e at_quote behind = closed_more b bs n is h (behind e)
      which false false _ _ e at_quote behind = absurd (grind arith)

  pub closed : (bs : List ℕ) (n : ℕ) → closing bs false n ≡ Some m → Closed bs n m
  closed bs n e = closed_from bs false n e
