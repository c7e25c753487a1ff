-- `read_row` meets its contract: each word is read as a number.
use Rattle.records.specs.Encoding.{row_from, word}
use Rattle.table_rows.proofs.read_row.Goals as goal

pub returns : goal.returns
unfolding row_from word
returns c =
    let w = c.row_by.ensures in
    rw (w.kind, w.account, w.day, w.amount, w.settled, w.mark, w.due, w.dispute, w.hold, w.reference)
