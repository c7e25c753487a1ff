-- `count_rows_to` meets its contract: the rows are those of the tables.
use native.Mathlib.Omega.{arith}
use Rattle.rules.proofs.TableLaws.{header-length}
use Rattle.posting.proofs.BookLaws.{used-room}
use Rattle.tick_base.proofs.MidwayLaws.{sound-midway, midway-countable}
use Rattle.tick_plan.proofs.CountLaws.{held-open}
use Rattle.tick_plan.proofs.count_rows_to.Goals as goal

pub invariant_of-header : goal.invariant_of-header
invariant_of-header c = record { wide = omega (arith, header-length _ c.requires.0) }

pub rows-requires : goal.rows-requires
rows-requires c = (omega (arith, header-length _ c.requires.0), used-room _ c.requires.0)

pub invariant_of-countable : goal.invariant_of-countable
invariant_of-countable c = record { countable = rw (c.rows.ensures.journal, c.rows.ensures.used) (midway-countable _ _ (sound-midway _ c.requires.0)) }

pub count_rows-requires : goal.count_rows-requires
count_rows-requires c =
    let none = c.requires.1 c.args.t.header.now c.rows.result.journal.now in
    (rw (c.rows.ensures.journal, c.rows.ensures.used) (held-open _ c.requires.0), rw (← none.day) at none)

pub returns : goal.returns
returns c =
    let none = c.requires.1 c.args.t.header.now c.rows.result.journal.now in
    rw (c.rows.ensures.journal, c.rows.ensures.used, none.day) at c.count_rows.ensures
