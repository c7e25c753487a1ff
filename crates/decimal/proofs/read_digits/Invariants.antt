use Rattle.decimal.proofs.ReadingLaws.{Reading}
use Rattle.decimal.proofs.read_digits.Given as goal

abbrev pub invariant-loop-b : goal.invariant-loop-b
invariant-loop-b l = Reading l.bytes l.v l.b-index
