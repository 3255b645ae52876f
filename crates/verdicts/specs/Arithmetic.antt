-- Comparing and computing: all that the two meanings of a formula share. Assumes nothing.
use Rattle.std.specs.Prelude.{Bool, ◌&&◌, List, [], ◌∷◌, length, ℤ, pos, ◌+ℤ◌, ◌-ℤ◌, ◌*ℤ◌, int_le, int_lt, unsigned_abs}
use Rattle.std.specs.Int.{int_max, int_min, int_signum}
use Rattle.parts.specs.declared.kinds.Binary.{Binary}
use Rattle.parts.specs.declared.kinds.Binary.TheVariants.{Add, Subtract, Multiply}
use Rattle.parts.specs.declared.kinds.Comparator.{Comparator}
use Rattle.parts.specs.declared.kinds.Comparator.TheVariants.{Less, AtMost, Equal, AtLeast, Greater}
use Rattle.parts.specs.declared.kinds.Statistic.{Statistic}
use Rattle.parts.specs.declared.kinds.Statistic.TheVariants.{Min, Max, Sum, Count}
use Rattle.parts.specs.declared.kinds.Unary.{Unary}
use Rattle.parts.specs.declared.kinds.Unary.TheVariants.{Abs, Sign}

abbrev pub compares : Comparator → ℤ → ℤ → Bool
compares Less x y = int_lt x y
compares AtMost x y = int_le x y
compares Equal x y = int_le x y && int_le y x
compares AtLeast x y = int_le y x
compares Greater x y = int_lt y x

abbrev pub of_one : Unary → ℤ → ℤ
of_one Abs x = pos (unsigned_abs x)
of_one Sign x = int_signum x

abbrev pub of_two : Binary → ℤ → ℤ → ℤ
of_two Add x y = x +ℤ y
of_two Subtract x y = x -ℤ y
of_two Multiply x y = x *ℤ y

-- the least and the greatest of x and the numbers that follow it
abbrev pub least_of : ℤ → List ℤ → ℤ
least_of x [] = x
least_of x (y ∷ ys) = int_min x (least_of y ys)

abbrev pub greatest_of : ℤ → List ℤ → ℤ
greatest_of x [] = x
greatest_of x (y ∷ ys) = int_max x (greatest_of y ys)

abbrev pub total : List ℤ → ℤ
total [] = pos 0
total (x ∷ xs) = x +ℤ total xs

-- The numbers of a window joined; there is always one.
abbrev pub of_many : Statistic → List ℤ → ℤ
of_many Min [] = pos 0
of_many Min (x ∷ xs) = least_of x xs
of_many Max [] = pos 0
of_many Max (x ∷ xs) = greatest_of x xs
of_many Sum xs = total xs
of_many Count xs = pos (length xs)
