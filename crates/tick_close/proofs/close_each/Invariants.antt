use Rattle.lent.specs.Lent.{SameTables}
use Rattle.tick_close.specs.Closing.{ClosedTo}
use Rattle.tick_close.proofs.close_each.Given as goal

abbrev pub invariant-loop-i : goal.invariant-loop-i
invariant-loop-i l =
    ClosedTo l.initial.t.header.now l.initial.t.accounts.now l.initial.t.journal.now l.t.header.now l.t.accounts.now l.t.journal.now l.today l.remains l.i
    × SameTables l.initial.t l.t
