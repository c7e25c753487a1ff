-- `stages::is_rising` meets its contract.
use Rattle.rules.specs.Tick.{rises}
use Rattle.tick_base.proofs.stages.is_rising.Goals as goal

pub returns : goal.returns
unfolding rises
returns c = rw c.held_toll.ensures
