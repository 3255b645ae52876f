use Rattle.records.proofs.Digits.{Sofar}
use Rattle.records.proofs.numeral.read_digits.Given as goal

abbrev pub invariant-loop-b : goal.invariant-loop-b
invariant-loop-b l = Sofar l.digits l.b-index l.sum
