-- `count_return` meets its contract.
use native.Mathlib.Omega.{arith}
use Rattle.event_return.proofs.ReturnLaws.{counts-below}
use Rattle.event_return.proofs.count_return.Goals as goal

pub return_check-requires : goal.return_check-requires
return_check-requires c = counts-below _ c.requires.holds

pub write_account-requires : goal.write_account-requires
write_account-requires c = (omega (arith, c.requires.from, c.requires.to), rw c.return_check.ensures c.requires.holds)

pub returns : goal.returns
returns c = rw c.return_check.ensures at c.write_account.ensures
