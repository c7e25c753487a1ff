-- `held_row` meets its contract.
use native.Mathlib.Omega.{arith}
use Rattle.rules.proofs.TableLaws.{header-length}
use Rattle.posting.proofs.BookLaws.{row-read-in, day-read, rows-lie}
use Rattle.event_dispute.proofs.held_row.Goals as goal

pub rows-requires : goal.rows-requires
rows-requires c = rows-lie _ c.requires

pub day-requires : goal.day-requires
day-requires c = omega (arith, header-length _ c.requires)

pub returns : goal.returns
returns c =
    let found = row-read-in _ c.requires _ _ c.rows.ensures.journal c.rows.ensures.used _ _ c.numbered.ensures in
    rw (found, c.day.ensures, day-read _ c.requires) at c.held_from.ensures
