-- `open_account` meets its contract: the tables hold the book with the account opened.
use Rattle.event_accounts.proofs.OpenLaws.{open-accepted, open-puts}
use Rattle.event_accounts.proofs.open_account.Goals as goal

pub put_account-requires : goal.put_account-requires
put_account-requires c =
    let s = c.requires.0 in
    let q = open-accepted _ s _ c.requires.1 c.requires.2 in
    (s, rw c.«open».ensures (open-puts _ s _ c.requires.1 q))
