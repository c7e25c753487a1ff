-- `add_and_settle` meets its contract: the two steps are those that it names.
use native.Mathlib.Omega.{arith}
use Rattle.event_ends.proofs.add_and_settle.Goals as goal

pub get-used-requires : goal.get-used-requires
get-used-requires c = omega (arith, c.requires.room.header)

pub add_row-requires : goal.add_row-requires
add_row-requires c = (c.requires.room, c.requires.storable)

pub overflow_add-used : goal.overflow_add-used
overflow_add-used c =
    let u = c.get-used.ensures in
    omega (arith, c.requires.few)

pub settle_from-requires : goal.settle_from-requires
settle_from-requires c = rw c.get-used.ensures (c.requires.settles _ _ c.add_row.ensures)

pub posted-requires : goal.posted-requires
posted-requires c =
    let u = c.get-used.ensures in
    omega (arith, c.requires.few)

pub returns-clause-settled : goal.returns-clause-settled
returns-clause-settled c =
    record { between = _; added = c.add_row.ensures; settled = rw c.get-used.ensures at c.settle_from.ensures }

pub returns-clause-answer : goal.returns-clause-answer
returns-clause-answer c = rw c.get-used.ensures at c.posted.ensures
