-- `slots::open_at` meets its contract.
use Rattle.std.proofs.Common.{rules}
use Rattle.batch_index.proofs.SideLaws.{closed-account, closed-side, open_own}
use Rattle.batch_index.proofs.slots.open_at.Goals as goal

pub returns-then-account_at-account : goal.returns-then-account_at-account
returns-then-account_at-account c = closed-account _ _ _ _ c.account_at.ensures c.if-account_at-account.true

pub returns-then-ne : goal.returns-then-ne
returns-then-ne c = closed-side _ _ _ _ c.account_at.ensures _ c.read_row-r.ensures _ c.side_of.ensures (search rules)

pub returns : goal.returns
returns c =
    open_own _ _ _ _ c.account_at.ensures _ c.read_row-r.ensures _ c.side_of.ensures c.requires.1 c.if-account_at-account.false (search rules) _ c.remaining_of.ensures
