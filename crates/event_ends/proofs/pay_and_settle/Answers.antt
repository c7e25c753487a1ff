-- `pay_and_settle` meets its contract: the row and the place that it makes are those that it names.
use native.Mathlib.Omega.{arith}
use Rattle.event_ends.proofs.pay_and_settle.Goals as goal

pub get-today-requires : goal.get-today-requires
get-today-requires c = omega (arith, c.requires.room.header)

pub get-used-requires : goal.get-used-requires
get-used-requires c = omega (arith, c.requires.room.header)

pub add_and_settle-requires : goal.add_and_settle-requires
add_and_settle-requires c = rw (c.new_row.ensures, c.get-today.ensures, c.get-used.ensures) c.requires

pub returns-clause-settled : goal.returns-clause-settled
returns-clause-settled c = rw (c.new_row.ensures, c.get-today.ensures) at c.add_and_settle.ensures.settled
