-- `rows::add_row` meets its contract.
use native.Mathlib.Omega.{arith}
use Rattle.posting.proofs.rows.add_row.Goals as goal

pub write_row-requires : goal.write_row-requires
write_row-requires c = (rw c.get-used.ensures c.requires.0.room, c.requires.1)

pub overflow_add-used : goal.overflow_add-used
overflow_add-used c =
    let r = c.requires.0.room in
    let g = c.get-used.ensures in
    omega arith

pub put-requires : goal.put-requires
put-requires c =
    let r = c.requires.0.room in
    let g = c.get-used.ensures in
    omega (arith, c.requires.0.header)

pub returns : goal.returns
returns c = record { header = rw (c.put.ensures, c.get-used.ensures); row = rw c.get-used.ensures at c.write_row.ensures }
