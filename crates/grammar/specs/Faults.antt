-- The first token of a tree that breaks a rule. Assumes nothing.
use Rattle.std.specs.Prelude.{ℕ, suc, Bool, cond, ◌&&◌, List, [], ◌∷◌, Some, None, Option, nat_le}
use Rattle.grammar.specs.Steps.{Rules, Step, unless, or_else}

-- how many parts are brought, once this token is read
abbrev pub brought_by : ℕ → Step → ℕ
brought_by brought s = cond s.brings (suc brought) brought

-- the part after the last lawful one, or nesting beyond the deepest lawful one
abbrev pub fits : Rules → ℕ → Step → Bool
fits rules brought s = nat_le (brought_by brought s) rules.parts && nat_le s.depth rules.nesting

-- the number of the rule that a token breaks, after so many parts
abbrev pub broken_by : Rules → ℕ → Step → Option ℕ
broken_by rules brought s = or_else s.breaks (unless (fits rules brought s) 6)

-- the rule that is broken first, and the index of the token that breaks it, counted on from i
abbrev pub first_broken : Rules → ℕ → List Step → ℕ → Option (ℕ × ℕ)
first_broken rules brought [] i = None
first_broken rules brought (s ∷ ss) i = elim (broken_by rules brought s) [ Some number ↦ Some (number, i) | None ↦ first_broken rules (brought_by brought s) ss (suc i) ]
