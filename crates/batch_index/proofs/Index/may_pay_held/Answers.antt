-- `Index::may_pay_held` meets its contract.
use Rattle.batch_index.specs.Index.{may_pay_held}
use Rattle.batch_index.proofs.Index.may_pay_held.Goals as goal

pub returns : goal.returns
unfolding may_pay_held
returns c = rw c.slot_of-money.ensures
