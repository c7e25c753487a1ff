-- `row_by` meets its contract: ten words, read in the layout's order.
use borrow.Author.Rules.{rules}
use Rattle.table_rows.proofs.row_by.Goals as goal

pub returns : goal.returns
returns g c =
    record {
      kind = search rules;
      account = search rules;
      day = search rules;
      amount = search rules;
      settled = search rules;
      mark = search rules;
      due = search rules;
      dispute = search rules;
      hold = search rules;
      reference = search rules;
    }
