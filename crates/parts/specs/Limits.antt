-- The limits that every formula keeps. Assumes nothing.
use Rattle.std.specs.Prelude.{ℕ, Bool, true, false, not, ◌&&◌, nat_le, nat_lt, unsigned_abs}
use Rattle.parts.specs.Bounds.{bound_kept, most_states}
use Rattle.parts.specs.Formulas.{Measure, numeral, variable, unary, binary, over, Property, compare, prefixed, joined}
use Rattle.parts.specs.declared.kinds.Connective.{Connective}
use Rattle.parts.specs.declared.kinds.Connective.TheVariants.{And, Or, Implies, Iff, Until}
use Rattle.parts.specs.declared.kinds.Prefix.{Prefix}
use Rattle.parts.specs.declared.kinds.Prefix.TheVariants.{Not, Next, Eventually, Always}
use Rattle.parts.specs.declared.kinds.Window.{Window}

-- the largest magnitude of a numeral
abbrev pub most_numeral : ℕ
most_numeral = 1000000000

abbrev pub lawful_window : Window → Bool
lawful_window w = nat_le w.first w.last && nat_le w.last most_numeral

-- Of so many columns, with values within `largest`. Inside a window measure no other stands.
abbrev pub lawful_measure : ℕ → ℕ → Bool → Measure → Bool
lawful_measure width largest inside (numeral n) = nat_le (unsigned_abs n) most_numeral
lawful_measure width largest inside (variable v) = nat_lt v width
lawful_measure width largest inside (unary u m) = lawful_measure width largest inside m && bound_kept largest (unary u m)
lawful_measure width largest inside (binary b m n) = lawful_measure width largest inside m && (lawful_measure width largest inside n && bound_kept largest (binary b m n))
lawful_measure width largest inside (over s w m) = not inside && (lawful_window w && (lawful_measure width largest true m && bound_kept largest (over s w m)))

abbrev pub lawful_prefix : Prefix → Bool
lawful_prefix Not = true
lawful_prefix (Next k) = nat_le k most_states
lawful_prefix (Eventually w) = lawful_window w
lawful_prefix (Always w) = lawful_window w

abbrev pub lawful_connective : Connective → Bool
lawful_connective And = true
lawful_connective Or = true
lawful_connective Implies = true
lawful_connective Iff = true
lawful_connective (Until w) = lawful_window w

abbrev pub lawful : ℕ → ℕ → Property → Bool
lawful width largest (compare c q m n) = lawful_measure width largest false m && lawful_measure width largest false n
lawful width largest (prefixed p f) = lawful_prefix p && lawful width largest f
lawful width largest (joined c f g) = lawful_connective c && (lawful width largest f && lawful width largest g)
