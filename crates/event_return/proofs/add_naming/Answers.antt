-- `add_naming` meets its contract.
use Rattle.event_return.proofs.add_naming.Goals as goal

pub add_row-requires : goal.add_row-requires
add_row-requires c = (c.requires.0, rw (c.row_naming-r.ensures, c.get.ensures) c.requires.1)

pub returns : goal.returns
returns c = rw (c.row_naming-r.ensures, c.get.ensures) at c.add_row.ensures
