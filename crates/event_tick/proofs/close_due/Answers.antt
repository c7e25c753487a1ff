-- `close_due` meets its contract: where the plan has no account that closes, none does.
use Rattle.tick_close.proofs.ClosedBookLaws.{none-closed}
use Rattle.event_tick.proofs.TickLaws.{ready}
use Rattle.event_tick.proofs.close_due.Goals as goal

pub close_accounts-requires : goal.close_accounts-requires
close_accounts-requires c = (c.requires.0, ready _ _ c.requires.1 c.if-plan.true)

pub returns-then-plan-clause-written : goal.returns-then-plan-clause-written
returns-then-plan-clause-written c hs p = c.close_accounts.ensures.written hs (ready _ _ p c.if-plan.true)

pub returns-else-plan-clause-written : goal.returns-else-plan-clause-written
returns-else-plan-clause-written c hs p = none-closed _ p.midway (p.quiet c.if-plan.false)
