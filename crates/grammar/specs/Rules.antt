-- The rules of criteria, for the columns and the magnitude that one is read for. Assumes nothing.
use Rattle.std.specs.Prelude.{ℕ, is_some, nat_le}
use Rattle.parts.specs.Bounds.{bound_kept, most_states}
use Rattle.parts.specs.Limits.{most_numeral}
use Rattle.grammar.specs.Meanings.{Columns, measure_of}
use Rattle.grammar.specs.Steps.{Rules}

-- how many parts a criterion may have, and how deeply they may be nested
abbrev pub most_parts : ℕ
most_parts = 128

abbrev pub most_nesting : ℕ
most_nesting = 32

abbrev pub rules_for : Columns → ℕ → Rules
rules_for columns largest = record {
  numeral = λ n. nat_le n most_numeral;
  index = λ k. nat_le k most_states;
  order = λ a b. nat_le a b;
  column = λ name. is_some (columns name);
  bound = λ m. bound_kept largest (measure_of columns m);
  parts = most_parts;
  nesting = most_nesting;
}
