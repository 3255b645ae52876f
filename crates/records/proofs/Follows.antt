-- What may follow a field. Assumes nothing.
use Rattle.std.proofs.Common.{◌≡◌, ℕ, Bool, true, false, cond, eqb, List, [], ◌∷◌, Some, None, refl, subst, arith}
use Rattle.std.specs.List.{prefix_len}
use Rattle.std.proofs.lemmas.Bool.{eqb-true}
use denote.Enum.Bare.{sameb}
use Rattle.records.specs.Bytes.{comma, cr, lf, text_data}
use Rattle.records.specs.Fields.{following, line_end, after_line, opens}
use Rattle.records.specs.contracts.cut.Next.{the_type}
use Rattle.records.specs.declared.cut.Next.{Next}

-- what `==` tells of it
abbrev pub is_field : Next → Bool
is_field next = sameb the_type next Next.Field

-- it as four cases to split on
pub data Follows : List ℕ → Next → Type 0 where
  file_end : Follows [] Next.End
  last_line_end : Follows (cr ∷ lf ∷ []) Next.End
  comma_first : {cs : List ℕ} → Follows (comma ∷ cs) Next.Field
  line_end_first : {c : ℕ} {cs : List ℕ} → Follows (cr ∷ lf ∷ c ∷ cs) Next.Record

pub following_from_follows : {t : List ℕ} {next : Next} → Follows t next → following t ≡ Some next
following_from_follows file_end = refl
following_from_follows last_line_end = refl
following_from_follows comma_first = refl
following_from_follows line_end_first = refl

-- neither a quote nor text data: both would belong to the field
pub no_quote_follows : {t : List ℕ} {next : Next} → Follows t next → opens t ≡ false
no_quote_follows file_end = refl
no_quote_follows last_line_end = refl
no_quote_follows comma_first = refl
no_quote_follows line_end_first = refl

pub no_text_follows : {t : List ℕ} {next : Next} → Follows t next → prefix_len text_data t ≡ 0
no_text_follows file_end = refl
no_text_follows last_line_end = refl
no_text_follows comma_first = refl
no_text_follows line_end_first = refl

module _ {next : Next} where
  same_next : {t : List ℕ} {m : Next} → Some m ≡ Some next → Follows t m → Follows t next
  same_next {t} {m} e f = subst (Follows t) (cc) f

  after_cr : (bs : List ℕ) → line_end bs ≡ Some next → Follows (cr ∷ bs) next
  after_cr [] e = absurd (grind arith)
  after_cr (b ∷ bs) e = first (eqb b lf) refl bs e
    where
      first : (is_lf : Bool) → eqb b lf ≡ is_lf → (cs : List ℕ) → cond is_lf (Some (after_line cs)) None ≡ Some next
          → Follows (cr ∷ b ∷ cs) next
      first true is [] e = rw (eqb-true b lf is) (same_next e last_line_end)
      first true is (c ∷ cs) e = rw (eqb-true b lf is) (same_next e line_end_first)
      first false is cs e = absurd (grind arith)

  pub follows_from_following : (t : List ℕ) → following t ≡ Some next → Follows t next
  follows_from_following [] e = same_next e file_end
  follows_from_following (b ∷ bs) e = first (eqb b comma) (eqb b cr) refl refl e
    where
      first : (is_comma is_cr : Bool) → eqb b comma ≡ is_comma → eqb b cr ≡ is_cr
          → cond is_comma (Some Next.Field) (cond is_cr (line_end bs) None) ≡ Some next → Follows (b ∷ bs) next
      first true is_cr is _ e = rw (eqb-true b comma is) (same_next e comma_first)
      first false true _ is e = rw (eqb-true b cr is) (after_cr bs e)
      first false false _ _ e = absurd (grind arith)
