use Rattle.rules.specs.Tables.{three_tables}
use Rattle.tick_raise.proofs.RaisingLaws.{Turns}
use Rattle.tick_raise.proofs.raise_tolls.Given as goal

abbrev pub invariant-loop-i : goal.invariant-loop-i
invariant-loop-i l = Turns (three_tables l.initial.header l.accounts l.initial.journal) l.today l.header l.journal l.n l.i
