-- The tokens of a text one after the other: each but the end has a byte, so that as many as there are bytes, and the end, are all.
use Rattle.std.proofs.Common.{◌≡◌, ℕ, zero, suc, ◌-◌, ◌<◌, ◌≤◌, Bool, true, false, cond, ltb, List, [], ◌∷◌, length, get_or, drop, Some, None, Option, refl, ap, arith, length-drop, ltb-true}
use Rattle.std.specs.Char.{is_ascii_alphabetic, is_ascii_digit}
use Rattle.std.specs.List.{prefix_len}
use Rattle.tokens.specs.Classes.{class_of}
use Rattle.std.proofs.lemmas.Bool.Decides.{nat_tests}
use Rattle.tokens.specs.Lexing.{scan, scan_by, letters, digits, wide_sign, wide_by, start, spot_at, end_at, spots_within, spots_from}
use Rattle.tokens.specs.declared.words.ConnectiveSign.{ConnectiveSign}
use Rattle.tokens.specs.Tokens.{Spot, is_stop}
use Rattle.tokens.specs.declared.classes.Class.{Class}
use Rattle.tokens.specs.declared.classes.Class.TheVariants as class

letter_first : (b : ℕ) → class_of b ≡ class.Letter → is_ascii_alphabetic b ≡ true
letter_first b e = grind (arith, nat_tests)

digit_first : (b : ℕ) → class_of b ≡ class.Digit → is_ascii_digit b ≡ true
digit_first b e = grind (arith, nat_tests)

-- a run has a byte where its first byte is of its kind
run_has_a_byte : (holds : ℕ → Bool) (bs : List ℕ) → 0 < length bs → holds (get_or bs 0 0) ≡ true → 1 ≤ prefix_len holds bs
run_has_a_byte holds [] h e = absurd (omega arith)
run_has_a_byte holds (b ∷ bs) h e = rw e (omega arith)

wide_has_a_byte : (x : Option ConnectiveSign) → 1 ≤ (wide_by x).size
wide_has_a_byte None = omega arith
wide_has_a_byte (Some x) = omega arith

-- a token begins with a byte of its own
class_has_a_byte : (k : Class) (bs : List ℕ) → (k ≡ class.Letter → 1 ≤ letters bs) → (k ≡ class.Digit → 1 ≤ digits bs) → 1 ≤ (scan_by k bs).size
class_has_a_byte class.Space bs l d = omega arith
class_has_a_byte class.Letter bs l d = l refl
class_has_a_byte class.Digit bs l d = d refl
class_has_a_byte class.Sign bs l d = grind (arith, nat_tests)
class_has_a_byte class.Brace bs l d = grind (arith, nat_tests)
class_has_a_byte class.Open bs l d = omega arith
class_has_a_byte class.Close bs l d = omega arith
class_has_a_byte class.OpenWindow bs l d = omega arith
class_has_a_byte class.CloseWindow bs l d = omega arith
class_has_a_byte class.Comma bs l d = omega arith
class_has_a_byte class.Tilde bs l d = omega arith
class_has_a_byte class.Less bs l d = grind (arith, nat_tests)
class_has_a_byte class.Equal bs l d = omega arith
class_has_a_byte class.Greater bs l d = grind (arith, nat_tests)
class_has_a_byte class.Wide bs l d = wide_has_a_byte (wide_sign (get_or bs 1 0) (get_or bs 2 0))
class_has_a_byte class.Other bs l d = omega arith

scan_has_a_byte : (bs : List ℕ) → 0 < length bs → 1 ≤ (scan bs).size
unfolding scan
scan_has_a_byte bs h =
    class_has_a_byte (class_of (get_or bs 0 0)) bs
    (λ e. run_has_a_byte is_ascii_alphabetic bs h (letter_first (get_or bs 0 0) e))
    (λ e. run_has_a_byte is_ascii_digit bs h (digit_first (get_or bs 0 0) e))

abbrev Going : List ℕ → ℕ → Type 0
Going text at = (at < end_at text at) × (at < length text)

-- a token that is not the end lies ahead, and the text goes on behind it
going_at : (text : List ℕ) (at : ℕ) (b : Bool) → ltb (start text at) (length text) ≡ b → is_stop (spot_at text at).tok ≡ false → Going text at
going_at text at true e s =
    let before : start text at < length text = ltb-true (start text at) (length text) e in
    let left : 0 < length (drop (start text at) text) = simp length-drop (omega arith) in
    let byte = scan_has_a_byte (drop (start text at) text) left in
    rw e (omega arith, omega arith)
going_at text at false e s = grind (arith, nat_tests)

pub going : (text : List ℕ) (at : ℕ) → is_stop (spot_at text at).tok ≡ false → Going text at
going text at s = going_at text at (ltb (start text at) (length text)) refl s

same_unless : {A : Type 0} (b : Bool) (x y z : A) → (b ≡ false → y ≡ z) → cond b x y ≡ cond b x z
same_unless true x y z f = refl
same_unless false x y z f = f refl

-- more room makes no more tokens
enough : (m n : ℕ) (text : List ℕ) (at : ℕ) → length text - at < m → length text - at < n → spots_within m text at ≡ spots_within n text at
unfolding spots_within
enough zero n text at h k = absurd (omega arith)
enough (suc m) zero text at h k = absurd (omega arith)
enough (suc m) (suc n) text at h k =
    ap (λ (rest : List Spot). spot_at text at ∷ rest)
    (same_unless (is_stop (spot_at text at).tok) [] (spots_within m text (end_at text at)) (spots_within n text (end_at text at))
    (λ s. let on = going text at s in enough m n text (end_at text at) (omega (arith, on)) (omega (arith, on))))

-- the tokens from a place on are the next one and, unless that is the end, those behind it
pub spots_step : (text : List ℕ) (at : ℕ) → spots_from text at ≡ spot_at text at ∷ cond (is_stop (spot_at text at).tok) [] (spots_from text (end_at text at))
unfolding spots_within
spots_step text at =
    ap (λ (rest : List Spot). spot_at text at ∷ rest)
    (same_unless (is_stop (spot_at text at).tok) [] (spots_within (length text - at) text (end_at text at)) (spots_from text (end_at text at))
    (λ s. let on = going text at s in enough (length text - at) (suc (length text - end_at text at)) text (end_at text at) (omega (arith, on)) (omega arith)))
