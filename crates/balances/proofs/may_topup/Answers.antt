-- `may_topup` meets its contract: it is the rule, test by test.
use mathlib.Core.Path.{refl}
use Rattle.balances.specs.Summed.{may_topup}
use Rattle.balances.proofs.may_topup.Goals as goal

pub returns : goal.returns
unfolding may_topup
returns c = refl
