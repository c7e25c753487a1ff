use Rattle.sound_passages.proofs.TreeLaws.{Way}
use Prim.Native.Nat.{◌*◌, ◌-◌}
use Rattle.sound_passages.proofs.passages.seek.Given as goal

abbrev pub invariant-loop-s : goal.invariant-loop-s
invariant-loop-s l = Way l.space l.passed.journal.now l.cells l.passed.used l.x l.y l.c l.s

abbrev pub decreases-loop-s : goal.decreases-loop-s
decreases-loop-s l = 4 * l.space - l.c
