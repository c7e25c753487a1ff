-- `Account::decline` meets its contract: each way through the test is the definition's.
use Rattle.records.specs.AccountOperations.{declined_on}
use Rattle.records.proofs.Account.decline.Goals as goal

pub returns-then-last_decline : goal.returns-then-last_decline
unfolding declined_on
returns-then-last_decline c = rw (← c.last_decline.ensures, c.if-last_decline.true)

pub returns : goal.returns
unfolding declined_on
returns c = rw (← c.last_decline.ensures, c.if-last_decline.false)
