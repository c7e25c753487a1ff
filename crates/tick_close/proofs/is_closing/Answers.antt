-- `is_closing` meets its contract.
use Rattle.tick_close.specs.Closing.{closes_by}
use Rattle.tick_close.proofs.is_closing.Goals as goal

pub returns : goal.returns
unfolding closes_by
returns c = rw c.days_over.ensures
