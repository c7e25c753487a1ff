-- `lengths_fit` meets its contract: it is the clause on the tables' lengths.
use Rattle.rules.specs.Tables.{lengths_fit, whole_records}
use Rattle.sound_header.proofs.header.lengths_fit.Goals as goal

pub returns : goal.returns
unfolding lengths_fit whole_records
returns c = rw (c.sizes_fit.ensures, c.count.ensures, c.room.ensures)
