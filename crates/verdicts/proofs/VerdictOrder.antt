-- Lesser and greater of the three verdicts: order of operands, grouping, and one over the other. Assumes nothing.
use Rattle.std.proofs.Common.{◌≡◌, arith}
use Rattle.verdicts.specs.Laws.{TablesByRank}
use Rattle.verdicts.specs.Tables.{greater, lesser}
use Rattle.verdicts.specs.declared.verdict.Verdict.{Verdict}
use Rattle.verdicts.specs.declared.verdict.Verdict.TheVariants.{False, True}

pub lesser_false : (v : Verdict) → lesser v False ≡ False
lesser_false v = grind arith

pub lesser_true : (v : Verdict) → lesser v True ≡ v
lesser_true v = grind arith

pub lesser_comm : (v w : Verdict) → lesser v w ≡ lesser w v
lesser_comm v w = grind arith

pub lesser_assoc : (u v w : Verdict) → lesser (lesser u v) w ≡ lesser u (lesser v w)
lesser_assoc u v w = grind arith

pub greater_assoc : (u v w : Verdict) → greater (greater u v) w ≡ greater u (greater v w)
greater_assoc u v w = grind arith

pub lesser_greater : (u v w : Verdict) → lesser u (greater v w) ≡ greater (lesser u v) (lesser u w)
lesser_greater u v w = grind arith

pub tables_by_rank : TablesByRank
tables_by_rank v w = grind arith
