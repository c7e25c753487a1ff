-- `end_hold` meets its contract.
use mathlib.Core.Path.{refl, sym, ◌∙◌}
use Rattle.tables.proofs.ChangeLaws.{unchanged}
use Rattle.tick_holds.proofs.HoldLaws.{release-due}
use Rattle.records.specs.Encoding.{row_at}
use Rattle.preservation.proofs.TickSteps.{end_hold-ends, end_hold-goes-on}
use Rattle.tick_holds.proofs.end_hold.Goals as goal

pub released-requires : goal.released-requires
released-requires c =
    let r = c.read_row-r.ensures in
    let e = sym c.ends_at.ensures ∙ c.if-ends_at.true in
    (rw r (c.requires.1.begun e), rw r (release-due _ _ (c.requires.1.free e)))

pub write_row-requires : goal.write_row-requires
write_row-requires c =
    let e = sym c.ends_at.ensures ∙ c.if-ends_at.true in
    (c.requires.0, rw (c.released.ensures, c.read_row-r.ensures) (c.requires.1.free e))

pub returns-then-ends_at : goal.returns-then-ends_at
returns-then-ends_at c =
    let e = sym c.ends_at.ensures ∙ c.if-ends_at.true in
    rw (end_hold-ends _ _ e) (rw (c.released.ensures, c.read_row-r.ensures) at c.write_row.ensures)

pub returns-else-ends_at : goal.returns-else-ends_at
returns-else-ends_at c =
    rw (end_hold-goes-on _ _ (sym c.ends_at.ensures ∙ c.if-ends_at.false)) (unchanged row_at _ _ _ refl)
