-- `slots::Slots::move_first` meets its contract.
use Rattle.batch_index.proofs.SlotLaws.{first-moved}
use Rattle.batch_index.proofs.slots.Slots.move_first.Goals as goal

pub returns : goal.returns
returns c = rw c.with_first.ensures (first-moved _ _ _ c.requires.1 _ _ _ c.requires.0 (rw c.first.ensures at c.next_open-next.ensures))
