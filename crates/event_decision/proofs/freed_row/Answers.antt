-- `freed_row` meets its contract.
use native.Mathlib.Omega.{arith}
use Rattle.rules.specs.Events.{release}
use Rattle.event_decision.proofs.DecisionLaws.{row_named_lem}
use Rattle.event_decision.proofs.freed_row.Goals as goal

pub rows-requires : goal.rows-requires
rows-requires c = (omega (arith, c.requires.header), c.requires.amounts.room)

pub released-requires : goal.released-requires
unfolding release
released-requires c =
    let r = row_named_lem _ _ _ c.args.e _ _ c.rows.ensures.journal c.rows.ensures.used c.numbered.ensures in
    rw (r, c.day.ensures) (c.requires.begun, c.requires.toll.due)

pub returns : goal.returns
returns c =
    let r = row_named_lem _ _ _ c.args.e _ _ c.rows.ensures.journal c.rows.ensures.used c.numbered.ensures in
    rw (r, c.day.ensures) at c.released.ensures
