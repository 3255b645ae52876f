use Rattle.std.proofs.Common.{◌≡◌, length, take}
use Rattle.changes.specs.Encoding.{changes}
use Rattle.changes.proofs.layout.ChangeLayout.changed.Given as goal

abbrev pub invariant-loop-v : goal.invariant-loop-v
invariant-loop-v l = l.changed ≡ length (changes 0 (take l.v l.values) (take (length l.values) l.self.last))
