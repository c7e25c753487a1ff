-- `plain_account` meets its contract: each word is read by bits.
use Rattle.records.specs.Encoding.{account_from, word}
use Rattle.plain_rows.proofs.AlikeLaws.{alike-none, alike-more}
use Rattle.plain_rows.proofs.accounts.plain_account.Goals as goal

pub returns : goal.returns
unfolding account_from word
returns c =
    let w = c.account_by.ensures in
    alike-more w.state (alike-more w.request (alike-more w.returned (alike-more w.threshold (alike-more w.topup (alike-more w.declines (alike-more w.declined (alike-more w.reserve (alike-more w.successor alike-none))))))))
