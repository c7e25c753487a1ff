-- `held_from` meets its contract.
use mathlib.Core.Path.{refl}
use Rattle.rules.specs.Events.{hold_from}
use Rattle.event_dispute.proofs.held_from.Goals as goal

pub returns : goal.returns
unfolding hold_from
returns c = refl
