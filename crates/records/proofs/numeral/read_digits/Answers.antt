use Rattle.std.proofs.Common.{sym, arith}
use Rattle.records.proofs.Digits.{one_more}
use Rattle.records.proofs.numeral.read_digits.Goals as goal

pub loop-b-preserved : goal.loop-b-preserved
loop-b-preserved c =
    one_more c.loop-b.invariant _ c.loop-b-test.true (sym c.if-not-is_ascii_digit.ensures.value) (omega arith)
    (omega (arith, c.saturating_add-sum.ensures, c.saturating_mul.ensures))
