-- `debtor::counted_debt` meets its contract: a row of another account counts nothing.
use Rattle.balances.proofs.DebtorLaws.{counts-none, counts-own}
use Rattle.balances.proofs.debtor.counted_debt.Goals as goal

pub returns-then-account_at-account : goal.returns-then-account_at-account
returns-then-account_at-account c = counts-none _ _ _ _ c.account_at.ensures c.if-account_at-account.true

pub returns : goal.returns
returns c =
    rw (c.part.ensures, c.is_counted.ensures, c.remaining_of.ensures, c.read_row-r.ensures)
    (counts-own _ _ _ _ c.account_at.ensures c.if-account_at-account.false)
