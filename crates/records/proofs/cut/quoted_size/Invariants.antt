use Rattle.std.proofs.Common.{◌≡◌, ◌+◌, ◌≤◌, true, false, drop}
use Rattle.records.specs.Fields.{closing}
use Rattle.records.proofs.cut.quoted_size.Given as goal

abbrev pub invariant-loop-i : goal.invariant-loop-i
invariant-loop-i l = (closing l.inside false 1 ≡ closing (drop l.i l.inside) l.quote (l.i + 1)) × (l.quote ≡ true → 1 ≤ l.i)
