-- `account_unknown` meets its contract.
use mathlib.Core.Bool.{◌||◌}
use Rattle.lists.specs.Tests.{◌is◌}
use Rattle.rules.specs.Refusals.{unknown}
use Rattle.event_refusals.proofs.AdmissionLaws.{cond-not}
use Rattle.event_refusals.proofs.account_unknown.Goals as goal

pub returns : goal.returns
unfolding unknown
returns c b r = rw (← r.size, ← r.account, cond-not (_ is 9 || _ is 10))
