-- `forward` meets its contract.
use borrow.Author.Tests.{eq-eqb, ne_eqb}
use Rattle.rules.specs.Successors.{forwarded}
use Rattle.event_heirs.proofs.forward.Goals as goal

pub returns-then-e-ne-EVENT_TOLL : goal.returns-then-e-ne-EVENT_TOLL
unfolding forwarded
returns-then-e-ne-EVENT_TOLL c = rw (ne_eqb _ _ c.if-e-ne-EVENT_TOLL.true)

pub returns : goal.returns
unfolding forwarded
returns c = rw (eq-eqb _ _ c.if-e-ne-EVENT_TOLL.false, c.toll_account.ensures)
