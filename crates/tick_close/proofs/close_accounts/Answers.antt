-- `close_accounts` meets its contract: the arrays decide as the book does.
use native.Mathlib.Omega.{arith}
use Rattle.tick_base.proofs.MidwayLaws.{midway-header, midway-room, midway-countable}
use Rattle.tick_close.proofs.ClosedBookLaws.{rows-usable, all-closable, closed-written}
use Rattle.tick_close.proofs.close_accounts.Goals as goal

pub used-used-requires : goal.used-used-requires
used-used-requires c = omega (arith, midway-header _ _ c.requires.1.midway)

pub day-today-requires : goal.day-today-requires
day-today-requires c = omega (arith, midway-header _ _ c.requires.1.midway)

pub rows-requires : goal.rows-requires
rows-requires c = (omega (arith, midway-header _ _ c.requires.1.midway), midway-room _ _ c.requires.1.midway)

pub invariant_of-countable : goal.invariant_of-countable
invariant_of-countable c = record { countable = rw (c.rows.ensures.journal, c.rows.ensures.used) (midway-countable _ _ c.requires.1.midway) }

pub add_rows-requires : goal.add_rows-requires
add_rows-requires c = c.none-remains.ensures _

pub use_rows-requires : goal.use_rows-requires
use_rows-requires c =
    rw c.used-used.ensures (rows-usable _ c.requires.1.midway)

pub close_each-requires : goal.close_each-requires
close_each-requires c =
    let p = c.requires.1 in
    let sums = rw (c.rows.ensures.journal, c.rows.ensures.used) at c.add_rows.ensures in
    let used = rw (c.used-used.ensures, c.day-today.ensures) at c.use_rows.ensures in
    rw c.day-today.ensures (all-closable _ p.midway p.business _ sums _ used p.room)

pub returns-clause-written : goal.returns-clause-written
returns-clause-written c hs p =
    let sums = rw (c.rows.ensures.journal, c.rows.ensures.used) at c.add_rows.ensures in
    let used = rw (c.used-used.ensures, c.day-today.ensures) at c.use_rows.ensures in
    closed-written _ p.midway p.business _ sums _ used _ _ _ (rw c.day-today.ensures at c.close_each.ensures.closed)
