use Rattle.tick_base.specs.Remainders.{Remainders}
use Rattle.tick_base.proofs.sums.Remains.add_rows.Given as goal

abbrev pub invariant-loop-i : goal.invariant-loop-i
invariant-loop-i l = Remainders l.countable.rows.journal.now l.self l.i
