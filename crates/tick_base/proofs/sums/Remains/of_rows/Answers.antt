-- `sums::Remains::of_rows` meets its contract: the rows are added to sums of none.
use Rattle.tick_base.proofs.sums.Remains.of_rows.Goals as goal

pub add_rows-requires : goal.add_rows-requires
add_rows-requires c = c.none-sums.ensures _
