-- `Account::return_check` meets its contract: each way through the test is the definition's.
use borrow.Author.Tests.{eq-eqb, ne_eqb}
use Rattle.records.specs.AccountOperations.{check_returned}
use Rattle.records.proofs.Account.return_check.Goals as goal

pub returns-then-self-eq-STATE_CLOSED : goal.returns-then-self-eq-STATE_CLOSED
unfolding check_returned
returns-then-self-eq-STATE_CLOSED c = simp (eq-eqb _ _ c.if-self-eq-STATE_CLOSED.true)

pub returns-else-self-eq-STATE_CLOSED : goal.returns-else-self-eq-STATE_CLOSED
unfolding check_returned
returns-else-self-eq-STATE_CLOSED c = simp (ne_eqb _ _ c.if-self-eq-STATE_CLOSED.false)
