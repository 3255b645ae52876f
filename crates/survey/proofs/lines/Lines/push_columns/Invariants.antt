use Rattle.std.proofs.Common.{◌≡◌, ◌++◌, map, drop, vec_items}
use Rattle.survey.specs.Statements.{column_names}
use Rattle.survey.proofs.lines.Lines.push_columns.Given as goal

abbrev pub invariant-loop-name : goal.invariant-loop-name
invariant-loop-name l =
    vec_items l.initial.self.bytes ++ column_names (map (λ x. x.now) l.names) ≡ vec_items l.self.bytes ++ column_names (map (λ x. x.now) (drop l.name-index l.names))
