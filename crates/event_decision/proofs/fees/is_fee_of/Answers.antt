-- `fees::is_fee_of` meets its contract.
use mathlib.Core.Path.{refl}
use Rattle.rules.specs.Rows.{fee_naming}
use Rattle.event_decision.proofs.fees.is_fee_of.Goals as goal

pub returns : goal.returns
unfolding fee_naming
returns c = refl
