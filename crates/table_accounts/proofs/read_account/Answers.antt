-- `read_account` meets its contract: each word is read as a number.
use Rattle.records.specs.Encoding.{account_from, word}
use Rattle.table_accounts.proofs.read_account.Goals as goal

pub returns : goal.returns
unfolding account_from word
returns c =
    let w = c.account_by.ensures in
    rw (w.state, w.request, w.returned, w.threshold, w.topup, w.declines, w.declined, w.reserve, w.successor)
