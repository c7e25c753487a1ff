-- `carry_out` meets its contract: each step leaves the tables of the book after it, with the holidays of the book before it.
use native.Mathlib.Omega.{arith}
use Rattle.rules.proofs.TableLaws.{header-length}
use Rattle.rules.proofs.HolidayTables.{sound-without}
use Rattle.rules.specs.Tables.{tables_with}
use Rattle.lent.specs.Lent.{lent_mut}
use Rattle.posting.proofs.BookLaws.{day-small, used-small}
use Rattle.event_tick.proofs.AnyHolidays.{midway-without, unraised-with, raised-rows, raised-with, unraised-count, holds-planned}
use Rattle.event_tick.proofs.StepLaws.{unraised-midway, unraised-room, unraised-marked, late-closing, end-header, end-longer, tick-posts}
use Rattle.event_tick.proofs.carry_out.Goals as goal

pub used-used-requires : goal.used-used-requires
used-used-requires c = omega (arith, header-length _ c.requires.1.sound)

pub end_holds-requires : goal.end_holds-requires
end_holds-requires c = let t = lent_mut c.args.t.now in (sound-without c.requires.0 t c.requires.1.sound, holds-planned c.requires.0 t c.args.plan c.requires.1.plan.ending, c.requires.2)

pub day-today-requires : goal.day-today-requires
day-today-requires c = rw c.end_holds.ensures.header (omega (arith, header-length _ c.requires.1.sound))

pub overflow_add-today : goal.overflow_add-today
overflow_add-today c =
    let d = rw c.end_holds.ensures.header at c.day-today.ensures in
    omega (arith, d, day-small _ c.requires.1.sound)

pub put-requires : goal.put-requires
put-requires c =
    let s = c.requires.1.sound in
    let h = c.end_holds.ensures.header in
    let d = rw h at c.day-today.ensures in
    (rw h (omega (arith, header-length _ s)), omega (arith, d, day-small _ s))

pub raise_tolls-raised-requires : goal.raise_tolls-raised-requires
raise_tolls-raised-requires c =
    let a = c.requires.1 in
    let f = c.end_holds.ensures in
    let h = rw (c.day-today.ensures, f.header) at c.put.ensures in
    let r = unraised-with c.requires.0 (lent_mut c.args.t.now) _ f.rows in (
      rw (h, f.accounts) (midway-without _ _ _ c.requires.0 _ (unraised-midway _ a.sound _ a.kind a.taken _ r)),
      rw (h, f.accounts, ← raised-rows c.requires.0) (unraised-room _ a.sound _ a.kind a.taken _ r),
      rw h (unraised-marked (tables_with c.requires.0 (lent_mut c.args.t.now)) a.sound _ a.kind a.taken _ r _ c.requires.2.marks),
    )

pub close_due-requires : goal.close_due-requires
close_due-requires c =
    let a = c.requires.1 in
    let f = c.end_holds.ensures in
    let h = rw (c.day-today.ensures, f.header) at c.put.ensures in
    let r = unraised-with c.requires.0 (lent_mut c.args.t.now) _ f.rows in
    let w = raised-with c.requires.0 _ _ (rw (h, f.accounts) at c.raise_tolls-raised.ensures.written) in
    (c.requires.0, rw f.accounts (late-closing _ a.sound _ a.kind a.taken _ r _ w _ a.plan))

pub used-requires : goal.used-requires
used-requires c =
    let a = c.requires.1 in
    let f = c.end_holds.ensures in
    let h = rw (c.day-today.ensures, f.header) at c.put.ensures in
    let r = unraised-with c.requires.0 (lent_mut c.args.t.now) _ f.rows in
    let w = raised-with c.requires.0 _ _ (rw (h, f.accounts) at c.raise_tolls-raised.ensures.written) in
    let x = rw f.accounts at (c.close_due.ensures.written c.requires.0 (rw f.accounts (late-closing _ a.sound _ a.kind a.taken _ r _ w _ a.plan))) in
    omega (arith, end-header _ a.sound _ a.kind a.taken _ r _ w _ x)

pub overflow_sub-used : goal.overflow_sub-used
overflow_sub-used c =
    let a = c.requires.1 in
    let f = c.end_holds.ensures in
    let h = rw (c.day-today.ensures, f.header) at c.put.ensures in
    let r = unraised-with c.requires.0 (lent_mut c.args.t.now) _ f.rows in
    let w = raised-with c.requires.0 _ _ (rw (h, f.accounts) at c.raise_tolls-raised.ensures.written) in
    let x = rw f.accounts at (c.close_due.ensures.written c.requires.0 (rw f.accounts (late-closing _ a.sound _ a.kind a.taken _ r _ w _ a.plan))) in
    rw (c.used-used.ensures, c.used.ensures) (end-longer _ a.sound _ a.kind a.taken _ r _ w _ x)

pub posted-requires : goal.posted-requires
posted-requires c =
    omega (arith, c.used-used.ensures, used-small _ c.requires.1.sound)

pub returns-clause-posts : goal.returns-clause-posts
returns-clause-posts c hs a =
    let f = c.end_holds.ensures in
    let h = rw (c.day-today.ensures, f.header) at c.put.ensures in
    let r = unraised-with hs (lent_mut c.args.t.now) _ f.rows in
    let w = raised-with hs _ _ (rw (h, f.accounts) at c.raise_tolls-raised.ensures.written) in
    let x = rw f.accounts at (c.close_due.ensures.written hs (rw f.accounts (late-closing _ a.sound _ a.kind a.taken _ r _ w _ a.plan))) in
    rw (c.posted.ensures, c.used-used.ensures, c.used.ensures)
    (tick-posts _ a.sound _ a.kind a.taken _ r _ w _ x _ (unraised-count hs _ _ _ (rw (h, f.accounts) at c.raise_tolls-raised.ensures.raised)))
