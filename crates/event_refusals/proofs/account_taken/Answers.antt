-- `account_taken` meets its contract.
use Rattle.rules.specs.Refusals.{taken}
use Rattle.event_refusals.proofs.account_taken.Goals as goal

pub returns : goal.returns
unfolding taken
returns c b r = rw (← r)
