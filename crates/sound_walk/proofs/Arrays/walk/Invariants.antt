use Rattle.sound_walk.specs.Walks.{SameArrays, Walked}
use Rattle.sound_walk.proofs.Arrays.walk.Given as goal

abbrev pub invariant-loop-i : goal.invariant-loop-i
invariant-loop-i l = record { same : SameArrays l.fn.self l.self; walked : Walked l.f l.self l.i }
