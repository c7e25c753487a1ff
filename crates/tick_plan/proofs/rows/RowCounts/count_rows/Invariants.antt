use Rattle.tick_plan.specs.Plans.{RowsCounted}
use Rattle.tick_plan.proofs.rows.RowCounts.count_rows.Given as goal

abbrev pub invariant-loop-i : goal.invariant-loop-i
invariant-loop-i l = RowsCounted l.header.words.now l.countable.rows.journal.now l.fn.self.today l.self l.i
