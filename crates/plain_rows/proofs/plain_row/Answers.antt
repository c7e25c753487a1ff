-- `plain_row` meets its contract: each word is read by bits.
use Rattle.records.specs.Encoding.{row_from, word}
use Rattle.plain_rows.proofs.plain_row.Goals as goal

pub returns : goal.returns
unfolding row_from word
returns c =
    let w = c.row_by.ensures in
    record {
      kind = w.kind;
      account = w.account;
      day = w.day;
      amount = w.amount;
      settled = w.settled;
      mark = w.mark;
      due = w.due;
      dispute = w.dispute;
      hold = w.hold;
      reference = w.reference;
    }
