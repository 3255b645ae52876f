-- How a field is cut off the front of some bytes. Assumes nothing.
use Rattle.std.specs.Prelude.{◌≡◌, ℕ, ◌+◌, ◌≤◌, Bool, true, false, cond, not, List, [], ◌∷◌, length, drop, Some, None, Option, ◌==◌}
use Rattle.std.specs.Option.{option_map}
use Rattle.std.specs.List.{prefix_len}
use Rattle.records.specs.Bytes.{comma, quote, cr, lf, text_data, quotable}
use Rattle.records.specs.declared.cut.Cut.{Cut}
use Rattle.records.specs.declared.cut.Next.{Next}
use Rattle.records.specs.declared.cut.Next.TheVariants.{Field, Record, End}

-- what follows a field: a comma, a line end before more bytes, or nothing but at most one line end
abbrev pub after_line : List ℕ → Next
after_line [] = End
after_line (b ∷ bs) = Record

abbrev pub line_end : List ℕ → Option Next
line_end [] = None
line_end (b ∷ bs) = cond (b == lf) (Some (after_line bs)) None

abbrev pub following : List ℕ → Option Next
following [] = Some End
following (b ∷ bs) = cond (b == comma) (Some Field) (cond (b == cr) (line_end bs) None)

-- the bytes between a field and the next one
abbrev pub separator : Next → ℕ
separator Field = 1
separator Record = 2
separator End = 0

abbrev pub is_end : Next → Bool
is_end Field = false
is_end Record = false
is_end End = true

-- The size of a quoted field of which n bytes are behind. `pending` says that a quote came just before,
-- which closes the field unless another quote follows it.
abbrev pub closing : List ℕ → Bool → ℕ → Option ℕ
closing [] pending n = cond pending (Some n) None
closing (b ∷ bs) pending n =
    cond (b == quote) (closing bs (not pending) (n + 1)) (cond pending (Some n) (cond (quotable b) (closing bs false (n + 1)) None))

abbrev pub opens : List ℕ → Bool
opens [] = false
opens (b ∷ bs) = b == quote

abbrev pub size : List ℕ → Option ℕ
size bs = cond (opens bs) (closing (drop 1 bs) false 1) (Some (prefix_len text_data bs))

abbrev pub cut_after : List ℕ → ℕ → Option Cut
cut_after bs n = option_map (λ next. record { size = n; quoted = opens bs; next = next }) (following (drop n bs))

abbrev pub cut_at : List ℕ → Option ℕ → Option Cut
cut_at bs None = None
cut_at bs (Some n) = cut_after bs n

-- the field in front of bs; None where there is none
abbrev pub cut : List ℕ → Option Cut
cut bs = cut_at bs (size bs)

-- a cut lies within its bytes, and has both its quotes
pub record Lies (bs : List ℕ) (k : Cut) : Type 0 where
  pub within : k.size + separator k.next ≤ length bs
  pub quotes : k.quoted ≡ true → 2 ≤ k.size
