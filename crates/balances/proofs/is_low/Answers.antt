-- `is_low` meets its contract.
use mathlib.Core.Path.{refl}
use Rattle.balances.specs.Summed.{is_low}
use Rattle.balances.proofs.is_low.Goals as goal

pub returns : goal.returns
unfolding is_low
returns c = refl
