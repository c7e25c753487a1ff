-- `write_account` meets its contract: nine words put from the account's first are that account, and no other account has one of them.
use Rattle.records.specs.Encoding.{account_words}
use Rattle.tables.proofs.ChangeLaws.{account-changed}
use Rattle.table_accounts.proofs.write_account.Goals as goal

pub returns : goal.returns
unfolding account_words
returns c = rw c.put_words.ensures (account-changed c.args.accounts.now c.args.i c.args.x c.requires.0)
