-- `rows::RowCounts::will_refund` meets its contract.
use Rattle.tick_plan.specs.Plans.{close_at, refunds_at}
use Rattle.tick_plan.proofs.CountLaws.{close-refund}
use Rattle.tick_plan.proofs.rows.RowCounts.will_refund.Goals as goal

pub returns : goal.returns
unfolding close_at refunds_at
returns c = rw c.will_close.ensures (close-refund _ _ _ _ _)
