-- `settlement::add_settled` meets its contract.
use borrow.Author.Rules.{rules}
use native.Mathlib.Omega.{arith}
use Rattle.settlement.proofs.add_settled.Goals as goal

pub overflow_add-r : goal.overflow_add-r
overflow_add-r c = rw c.read_row-r.ensures (omega arith)

pub put_settled-requires : goal.put_settled-requires
put_settled-requires c = rw c.read_row-r.ensures (search rules)

pub returns : goal.returns
returns c = rw c.read_row-r.ensures at c.put_settled.ensures
