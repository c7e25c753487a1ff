-- `rows::RowCounts::will_close` meets its contract.
use Rattle.tick_plan.specs.Plans.{close_by, close_at}
use Rattle.tick_plan.proofs.rows.RowCounts.will_close.Goals as goal

pub returns : goal.returns
unfolding close_by close_at
returns c = rw c.days_over.ensures
