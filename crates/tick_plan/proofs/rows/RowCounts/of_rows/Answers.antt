-- `rows::RowCounts::of_rows` meets its contract: the rows are counted to what was counted of none, for its day.
use Rattle.tick_plan.proofs.rows.RowCounts.of_rows.Goals as goal

pub count_rows-requires : goal.count_rows-requires
count_rows-requires c =
    let none = c.none-counts.ensures c.args.header.words.now c.args.countable.now.rows.journal.now in
    (c.requires, rw (← none.day) at none)

pub returns : goal.returns
returns c =
    let none = c.none-counts.ensures c.args.header.words.now c.args.countable.now.rows.journal.now in
    rw none.day at c.count_rows.ensures
