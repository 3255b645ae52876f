-- The nestings left fall at each prefix and bracket; within a nesting the levels fall.
use Rattle.std.proofs.Common.{◌+◌, ◌*◌, length}
use Rattle.grammar.specs.Trees.{PropertyTree}
use Rattle.criteria.specs.States.{Balanced, View, view}
use Rattle.criteria.specs.Ways.{Ends, columns_of}
use Rattle.criteria.proofs.Links.{Reached}
use Rattle.criteria.proofs.reader.Reader.+bracketed_formula_linked_links_operand_prefix_tier.Given as goal

abbrev pub decreases-bracketed : goal.decreases-bracketed
decreases-bracketed l = 24 * l.left

abbrev pub decreases-formula : goal.decreases-formula
decreases-formula l = 24 * l.left + 20

abbrev pub decreases-linked : goal.decreases-linked
decreases-linked l = 24 * l.left + 3 * l.level + 3

abbrev pub decreases-links : goal.decreases-links
decreases-links l = 24 * l.left + 3 * l.level + 1

abbrev pub decreases-operand : goal.decreases-operand
decreases-operand l = 24 * l.left + 1

abbrev pub decreases-prefix : goal.decreases-prefix
decreases-prefix l = 24 * l.left

abbrev pub decreases-tier : goal.decreases-tier
decreases-tier l = 24 * l.left + 3 * l.level + 2

abbrev pub invariant-links-loop-sign : goal.invariant-links-loop-sign
invariant-links-loop-sign l = Balanced l.initial.self l.self × ((p : PropertyTree) (v : View) → Ends (columns_of v.scope) v p (view l.initial.self) l.initial.at → Reached l.left l.level p v l.at (view l.self))

abbrev pub decreases-links-loop-sign : goal.decreases-links-loop-sign
decreases-links-loop-sign l = length (view l.self).spots
