-- A loop that reads digits from the left and holds the number so far. Assumes nothing.
use Rattle.std.proofs.Common.{◌≡◌, ℕ, ◌+◌, ◌-◌, ◌*◌, ◌^◌, ◌<◌, true, ◌&&◌, List, [], ◌∷◌, length, get_or, drop, sym, ap, ◌∙◌, arith}
use Rattle.std.specs.Char.{is_ascii_digit}
use Rattle.std.specs.Str.{all_ascii_digits}
use Rattle.std.proofs.lemmas.List.{at_drop_more}
use Rattle.records.specs.Numerals.{told, value_after}

-- a number that is told alike goes on to be told alike
told_alike : (bs : List ℕ) (m n : ℕ) → told m ≡ told n → told (value_after bs m) ≡ told (value_after bs n)
told_alike [] m n e = e
told_alike (b ∷ bs) m n e = told_alike bs (10 * m + (b - 48)) (10 * n + (b - 48)) (omega arith)

-- the bytes of bs before i are digits, and write n
pub record Sofar (bs : List ℕ) (i n : ℕ) : Type 0 where
  pub digits : all_ascii_digits bs ≡ all_ascii_digits (drop i bs)
  pub value : told (value_after bs 0) ≡ told (value_after (drop i bs) n)
  pub fits : n < 2 ^ 64

pub one_more : {bs : List ℕ} {i n : ℕ} (old : Sofar bs i n) (m : ℕ) → i < length bs → is_ascii_digit (get_or bs i 0) ≡ true → m < 2 ^ 64 → told m ≡ told (10 * n + (get_or bs i 0 - 48)) → Sofar bs (i + 1) m
one_more {bs} {i} {n} old m h digit fits e = record {
  digits = old.digits ∙ at_drop_more all_ascii_digits bs i 0 h ∙ ap (λ t. t && all_ascii_digits (drop (i + 1) bs)) digit;
  value = old.value ∙ at_drop_more (λ ds. told (value_after ds n)) bs i 0 h ∙ told_alike (drop (i + 1) bs) (10 * n + (get_or bs i 0 - 48)) m (sym e);
  fits = fits;
}
