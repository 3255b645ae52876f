-- The tokens of a text are tokens, and then its end, which stands at its length.
use Rattle.std.proofs.Common.{◌≡◌, ℕ, zero, suc, ◌+◌, ◌-◌, ◌<◌, ◌≤◌, Bool, true, false, cond, eqb, ltb, List, [], ◌∷◌, ◌++◌, length, get_or, drop, Some, None, Option, sym, refl, ap, ◌∙◌, ⊎_elim, arith, length-drop, ltb-false, ltb-true}
use Rattle.std.specs.Char.{is_ascii_alphabetic, is_ascii_digit}
use Rattle.std.specs.List.{AllByRecursion}
use Rattle.std.proofs.lemmas.List.Sums.{prefix_len-le-length}
use Rattle.std.proofs.lemmas.List.{get_or_past}
use Rattle.std.proofs.lemmas.Bool.{cases_lt}
use Rattle.std.proofs.lemmas.Bool.Decides.{nat_tests}
use Rattle.tokens.specs.Classes.{class_of, is_space}
use Rattle.tokens.specs.Lexing.{Scan, closes, digits, end_at, figure, named, printables, scan, scan_by, spot_at, spots, spots_within, start, wide_by, wide_sign}
use Rattle.tokens.specs.Tokens.{Spot, is_stop, stop}
use Rattle.tokens.specs.declared.classes.Class.{Class}
use Rattle.tokens.specs.declared.classes.Class.TheVariants as class
use Rattle.tokens.specs.declared.words.ConnectiveSign.{ConnectiveSign}
use Rattle.tokens.proofs.Spots.{going}

-- no name means the end
name_goes_on : (name : List ℕ) → is_stop (named name) ≡ false
unfolding named
name_goes_on name = grind (arith, nat_tests)

numeral_goes_on : (bs : List ℕ) → is_stop (figure bs) ≡ false
unfolding figure
numeral_goes_on bs = refl

either_goes_on : (b : Bool) (s t : Scan) → is_stop s.tok ≡ false → is_stop t.tok ≡ false → is_stop (cond b s t).tok ≡ false
either_goes_on true s t p q = p
either_goes_on false s t p q = q

wide_goes_on : (x : Option ConnectiveSign) → is_stop (wide_by x).tok ≡ false
wide_goes_on None = refl
wide_goes_on (Some x) = refl

-- a token that begins with a byte is not the end
class_goes_on : (k : Class) (bs : List ℕ) → is_stop (scan_by k bs).tok ≡ false
class_goes_on class.Space bs = refl
class_goes_on class.Letter bs = name_goes_on _
class_goes_on class.Digit bs = numeral_goes_on _
class_goes_on class.Sign bs = either_goes_on (eqb (digits (drop 1 bs)) 0) _ _ refl (numeral_goes_on _)
class_goes_on class.Brace bs = either_goes_on (closes bs) _ _ refl refl
class_goes_on class.Open bs = refl
class_goes_on class.Close bs = refl
class_goes_on class.OpenWindow bs = refl
class_goes_on class.CloseWindow bs = refl
class_goes_on class.Comma bs = refl
class_goes_on class.Tilde bs = refl
class_goes_on class.Less bs = either_goes_on (eqb (get_or bs 1 0) 0x3D) _ _ refl refl
class_goes_on class.Equal bs = refl
class_goes_on class.Greater bs = either_goes_on (eqb (get_or bs 1 0) 0x3D) _ _ refl refl
class_goes_on class.Wide bs = wide_goes_on (wide_sign (get_or bs 1 0) (get_or bs 2 0))
class_goes_on class.Other bs = refl

scan_goes_on : (bs : List ℕ) → is_stop (scan bs).tok ≡ false
unfolding scan
scan_goes_on bs = class_goes_on (class_of (get_or bs 0 0)) bs

abbrev the_end : List ℕ → Spot
the_end text = record { tok = stop; at = length text }

-- the end stands at the length of the text
stop_at : (text : List ℕ) (at : ℕ) (b : Bool) → ltb (start text at) (length text) ≡ b → at ≤ length text → is_stop (spot_at text at).tok ≡ true → spot_at text at ≡ the_end text
stop_at text at true e within s = absurd (let z : true ≡ false = sym s ∙ rw e (scan_goes_on (drop (start text at) text)) in grind (arith, nat_tests))
stop_at text at false e within s =
    let past : length text ≤ start text at = ltb-false (start text at) (length text) e in
    let spaces = prefix_len-le-length is_space (drop at text) in
    let left = length-drop at text in
    let there : start text at ≡ length text = omega arith in
    rw e (ap (λ (i : ℕ). record { tok = stop; at = i }) there)

-- tokens, none of them the end, and then the end
pub record Ended (text : List ℕ) (ss : List Spot) : Type 0 where
  pub tokens : List Spot
  pub all : AllByRecursion (λ t. is_stop t.tok ≡ false) tokens
  pub split : ss ≡ tokens ++ (the_end text ∷ [])

ended_by : (b : Bool) (text : List ℕ) (at : ℕ) (rest : List Spot) → is_stop (spot_at text at).tok ≡ b → at ≤ length text → (b ≡ false → Ended text rest) → Ended text (spot_at text at ∷ cond b [] rest)
ended_by true text at rest e within f = record { tokens = []; all = tt; split = ap (λ (s : Spot). s ∷ []) (stop_at text at (ltb (start text at) (length text)) refl within e) }
ended_by false text at rest e within f =
    let behind = f refl in
    record { tokens = spot_at text at ∷ behind.tokens; all = (e, behind.all); split = ap (λ (ss : List Spot). spot_at text at ∷ ss) behind.split }

-- a byte that is not 0 is read within the bytes
read_within : (bs : List ℕ) (i : ℕ) → 0 < get_or bs i 0 → i < length bs
read_within bs i h = ⊎_elim (λ below. below) (λ past. absurd (omega (arith, get_or_past bs i 0 past))) (cases_lt i (length bs))

sized_by : (b : Bool) (s t : Scan) (n : ℕ) → (b ≡ true → s.size ≤ n) → (b ≡ false → t.size ≤ n) → (cond b s t).size ≤ n
sized_by true s t n p q = p refl
sized_by false s t n p q = q refl

wide_within : (bs : List ℕ) (x : Option ConnectiveSign) → wide_sign (get_or bs 1 0) (get_or bs 2 0) ≡ x → 0 < length bs → (wide_by x).size ≤ length bs
wide_within bs None e h = omega arith
wide_within bs (Some x) e h = read_within bs 2 (grind (arith, nat_tests))

-- a token ends within the text
pub class_within : (k : Class) (bs : List ℕ) → 0 < length bs → (scan_by k bs).size ≤ length bs
class_within class.Space bs h = omega arith
class_within class.Letter bs h = prefix_len-le-length is_ascii_alphabetic bs
class_within class.Digit bs h = prefix_len-le-length is_ascii_digit bs
class_within class.Sign bs h =
    let some = prefix_len-le-length is_ascii_digit (drop 1 bs) in
    let left = length-drop 1 bs in
    sized_by (eqb (digits (drop 1 bs)) 0) _ _ (length bs) (λ _. omega arith) (λ _. omega arith)
class_within class.Brace bs h = sized_by (closes bs) _ _ (length bs) (λ e. let below = read_within bs (1 + printables (drop 1 bs)) (grind (arith, nat_tests)) in omega arith) (λ _. omega arith)
class_within class.Open bs h = omega arith
class_within class.Close bs h = omega arith
class_within class.OpenWindow bs h = omega arith
class_within class.CloseWindow bs h = omega arith
class_within class.Comma bs h = omega arith
class_within class.Tilde bs h = omega arith
class_within class.Less bs h = sized_by (eqb (get_or bs 1 0) 0x3D) _ _ (length bs) (λ e. read_within bs 1 (grind (arith, nat_tests))) (λ _. omega arith)
class_within class.Equal bs h = omega arith
class_within class.Greater bs h = sized_by (eqb (get_or bs 1 0) 0x3D) _ _ (length bs) (λ e. read_within bs 1 (grind (arith, nat_tests))) (λ _. omega arith)
class_within class.Wide bs h = wide_within bs (wide_sign (get_or bs 1 0) (get_or bs 2 0)) refl h
class_within class.Other bs h = omega arith

scan_within : (bs : List ℕ) → 0 < length bs → (scan bs).size ≤ length bs
unfolding scan
scan_within bs h = class_within (class_of (get_or bs 0 0)) bs h

end_by : (text : List ℕ) (at : ℕ) (b : Bool) → ltb (start text at) (length text) ≡ b → at ≤ length text → end_at text at ≤ length text
end_by text at true e within =
    let before : start text at < length text = ltb-true (start text at) (length text) e in
    let left = length-drop (start text at) text in
    let some : 0 < length (drop (start text at) text) = omega arith in
    let size = scan_within (drop (start text at) text) some in
    rw e (omega arith)
end_by text at false e within =
    let spaces = prefix_len-le-length is_space (drop at text) in
    let left = length-drop at text in
    rw e (omega arith)

spots_end_within : (most : ℕ) (text : List ℕ) (at : ℕ) → length text - at < most → at ≤ length text → Ended text (spots_within most text at)
unfolding spots_within
spots_end_within zero text at h within = absurd (omega arith)
spots_end_within (suc most) text at h within =
    ended_by (is_stop (spot_at text at).tok) text at (spots_within most text (end_at text at)) refl within
    (λ s. let on = going text at s in spots_end_within most text (end_at text at) (omega (arith, on)) (end_by text at (ltb (start text at) (length text)) refl within))

pub spots_end : (text : List ℕ) → Ended text (spots text)
spots_end text = spots_end_within (suc (length text - 0)) text 0 (omega arith) (omega arith)
