use Rattle.std.proofs.Common.{◌≡◌, ◌++◌, vec_items}
use Rattle.std.specs.List.{flat_map}
use Rattle.survey.specs.Statements.{range_line}
use Rattle.survey.proofs.lines.Lines.push_ranges.Given as goal

abbrev pub invariant-loop-name : goal.invariant-loop-name
invariant-loop-name l =
    vec_items l.self.bytes ≡ vec_items l.initial.self.bytes ++ flat_map (λ p. range_line p.0.now.now p.1.now) l.yielded
