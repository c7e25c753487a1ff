-- `account_closed` meets its contract.
use Rattle.rules.specs.Refusals.{on_closed}
use Rattle.event_refusals.proofs.account_closed.Goals as goal

pub returns : goal.returns
unfolding on_closed
returns c b r = rw (← r)
