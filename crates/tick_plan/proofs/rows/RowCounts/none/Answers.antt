-- `rows::RowCounts::none` meets its contract.
use Rattle.tick_plan.proofs.CountLaws.{rows_none}
use Rattle.tick_plan.proofs.rows.RowCounts.none.Goals as goal

pub returns : goal.returns
returns c = λ h t. rows_none h t _ _ (c.none.ensures t)
