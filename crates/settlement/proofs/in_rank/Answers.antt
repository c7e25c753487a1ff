-- `settlement::in_rank` meets its contract.
use mathlib.Core.Path.{refl}
use Rattle.settlement.specs.Settling.{in_rank}
use Rattle.settlement.proofs.in_rank.Goals as goal

pub returns-in-Tolls : goal.returns-in-Tolls
unfolding in_rank
returns-in-Tolls c = rw c.in-Tolls.is refl

pub returns-in-FeesAndReversals : goal.returns-in-FeesAndReversals
unfolding in_rank
returns-in-FeesAndReversals c = rw (c.in-FeesAndReversals.is, c.is_debit.ensures) refl
