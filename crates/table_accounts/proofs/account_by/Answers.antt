-- `account_by` meets its contract: nine words, read in the layout's order.
use borrow.Author.Rules.{rules}
use Rattle.table_accounts.proofs.account_by.Goals as goal

pub returns : goal.returns
returns g c =
    record {
      state = search rules;
      request = search rules;
      returned = search rules;
      threshold = search rules;
      topup = search rules;
      declines = search rules;
      declined = search rules;
      reserve = search rules;
      successor = search rules;
    }
