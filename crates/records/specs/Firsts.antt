-- The first seventeen fields of a record. Assumes nothing.
use Rattle.std.specs.Prelude.{ℕ, ◌+◌, List, [], ◌∷◌, ◌++◌, map, length, take}
use Rattle.records.specs.declared.fault.Position.{Position}

-- how many fields of a record are kept: the stay, or its name, and 16 more
abbrev pub kept_fields : ℕ
kept_fields = 17

-- where a record begins, how many fields it has, and what its first seventeen say and where they stand
pub record Firsts (A : Type 0) : Type 0 where
  pub at : Position
  pub count : ℕ
  pub values : List A
  pub places : List Position

abbrev pub firsts_of : {X A : Type 0} → (X → A) → (X → Position) → Position → List X → Firsts A
firsts_of value place p xs = record { at = p; count = length xs; values = take kept_fields (map value xs); places = take kept_fields (map place xs) }

abbrev pub none : {A : Type 0} → Position → Firsts A
none p = record { at = p; count = 0; values = []; places = [] }

abbrev pub with_one : {A : Type 0} → Firsts A → A → Position → Firsts A
with_one f x place = record { at = f.at; count = f.count + 1; values = take kept_fields (f.values ++ (x ∷ [])); places = take kept_fields (f.places ++ (place ∷ [])) }
