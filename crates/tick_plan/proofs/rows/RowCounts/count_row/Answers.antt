-- `rows::RowCounts::count_row` meets its contract: a settled row is no held toll.
use mathlib.Core.Path.{sym, ◌∙◌}
use Rattle.records.specs.Encoding.{row_at}
use Rattle.tick_plan.proofs.CountLaws.{rows-spent, held-not}
use Rattle.tick_plan.proofs.rows.RowCounts.count_row.Goals as goal

pub returns-then-settled-small_amount : goal.returns-then-settled-small_amount
returns-then-settled-small_amount c =
    let spent = sym c.small_settled-settled.ensures ∙ c.if-settled-small_amount.true ∙ c.small_amount.ensures in
    rows-spent _ _ _ _ spent (held-not (row_at c.args.countable.now.rows.journal.now c.args.i) (c.requires.1 _ c.requires.0) spent) _ c.requires.2
