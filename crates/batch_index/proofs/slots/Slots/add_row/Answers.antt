-- `slots::Slots::add_row` meets its contract: the row changes the money of its account alone.
use Rattle.batch_index.proofs.SlotLaws.{row-added}
use Rattle.batch_index.proofs.slots.Slots.add_row.Goals as goal

pub returns : goal.returns
returns c = row-added _ _ _ _ c.requires.1 c.requires.2 c.args.countable.now.countable c.requires.0 _ c.read_row-r.ensures _ c.money_with-slot.ensures
