-- What a byte of a text begins, and which bytes a name, a numeral or a run of spaces is made of. Assumes nothing.
use Rattle.std.specs.Prelude.{ℕ, Bool, cond, not, ◌&&◌, ◌||◌, ◌==◌}
use Rattle.std.specs.Char.{is_ascii_alphabetic, is_ascii_digit}
use Rattle.std.specs.Int.{is_in_range}
use Rattle.tokens.specs.declared.classes.Class.{Class}
use Rattle.tokens.specs.declared.classes.Class.TheVariants as class

abbrev pub is_space : ℕ → Bool
is_space b = b == 0x20

-- what a variable's name is made of: printable bytes, without braces
abbrev pub is_printable : ℕ → Bool
is_printable b = is_in_range 0x20 0x7E b && not (b == 0x7B || b == 0x7D)

abbrev pub class_of : ℕ → Class
class_of b =
    cond (is_space b) class.Space
    (cond (is_ascii_alphabetic b) class.Letter
    (cond (is_ascii_digit b) class.Digit
    (cond (b == 0x2B || b == 0x2D) class.Sign
    (cond (b == 0x7B) class.Brace
    (cond (b == 0x28) class.Open
    (cond (b == 0x29) class.Close
    (cond (b == 0x5B) class.OpenWindow
    (cond (b == 0x5D) class.CloseWindow
    (cond (b == 0x2C) class.Comma
    (cond (b == 0x7E) class.Tilde
    (cond (b == 0x3C) class.Less
    (cond (b == 0x3D) class.Equal
    (cond (b == 0x3E) class.Greater
    (cond (b == 0xE2) class.Wide
    class.Other))))))))))))))
