use Rattle.sound_journal.specs.Marks.{MarkedTo}
use Rattle.sound_journal.proofs.marks.mark_used.Given as goal

abbrev pub invariant-loop-n : goal.invariant-loop-n
invariant-loop-n l = MarkedTo l.accounts l.count l.marks l.n
