-- The least and the greatest of some numbers. Assumes nothing.
use Rattle.std.specs.Prelude.{ℕ, List, [], ◌∷◌, ◌++◌, ℤ, Some, None, codes, Option}
use Rattle.std.specs.Fmt.{signed_decimal}
use Rattle.std.specs.Int.{int_min, int_max}
use Rattle.survey.specs.declared.range.Range.{Range}

abbrev pub range_of : ℤ → Range
range_of n = record { least = n; greatest = n }

abbrev pub with_number : Range → ℤ → Range
with_number r n = record { least = int_min r.least n; greatest = int_max r.greatest n }

-- what is printed: the least, a comma, and the greatest
abbrev pub range_text : Range → List ℕ
range_text r = signed_decimal r.least ++ (codes "," ++ signed_decimal r.greatest)

-- the range with one number more, where that of no numbers is none
abbrev pub joined : Option Range → ℤ → Range
joined None n = range_of n
joined (Some r) n = with_number r n

-- the ranges of the columns with one record's values more
abbrev pub widened : List (Option Range) → List ℤ → List (Option Range)
widened [] vs = []
widened (r ∷ rs) [] = r ∷ rs
widened (r ∷ rs) (v ∷ vs) = Some (joined r v) ∷ widened rs vs
