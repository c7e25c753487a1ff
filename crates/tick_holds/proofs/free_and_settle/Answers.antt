-- `free_and_settle` meets its contract: the rows are those of the book after holds have ended and settlement.
use native.Mathlib.Omega.{arith}
use Rattle.rules.proofs.TableLaws.{header-length}
use Rattle.posting.proofs.BookLaws.{day-small, count_small, journal-settles}
use Rattle.tick_holds.proofs.HoldLaws.{sound-ending, mapped-journal, unraised-written}
use Rattle.tick_holds.proofs.free_and_settle.Goals as goal

pub used-used-requires : goal.used-used-requires
used-used-requires c = omega (arith, header-length _ c.requires.0)

pub day-today-requires : goal.day-today-requires
day-today-requires c = omega (arith, header-length _ c.requires.0)

pub overflow_add-today : goal.overflow_add-today
overflow_add-today c = omega (arith, c.day-today.ensures, day-small _ c.requires.0)

pub end_holds-requires : goal.end_holds-requires
end_holds-requires c = rw (c.used-used.ensures, c.day-today.ensures) (sound-ending _ c.requires.0)

pub settle_freed-requires : goal.settle_freed-requires
settle_freed-requires c =
    let s = c.requires.0 in
    let u = c.used-used.ensures in
    (rw u (mapped-journal _ _ _ _ (journal-settles _ s) (rw u at c.end_holds.ensures)), rw c.count-count.ensures (count_small _ s))

pub returns : goal.returns
returns c =
    let s = c.requires.0 in
    let u = c.used-used.ensures in
    let d = c.day-today.ensures in
    unraised-written _ s _ _ _ _ c.requires.1 (rw (u, d) at c.end_holds.ensures) (rw (c.count-count.ensures, u) at c.settle_freed.ensures) (count_small _ s)
