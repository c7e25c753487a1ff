use Rattle.lent.specs.Lent.{SameTables}
use Rattle.listing.specs.Turns.{state_of}
use Rattle.listing.proofs.RunLaws.{Looping}
use Rattle.listing.proofs.run.Given as goal

abbrev pub invariant-loop-taken : goal.invariant-loop-taken
invariant-loop-taken l = SameTables l.initial.listing.t l.listing.t × Looping (state_of l.listing) l.taken
