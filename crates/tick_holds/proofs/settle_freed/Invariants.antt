use Rattle.tick_holds.specs.Holds.{SettledThose}
use Rattle.tick_holds.proofs.settle_freed.Given as goal

abbrev pub invariant-loop-i : goal.invariant-loop-i
invariant-loop-i l = SettledThose l.ends l.money l.i l.initial.journal l.journal l.used
