-- `cell_for` meets its contract: it is what is sought, the toll left out.
use Rattle.sound_passages.proofs.TreeLaws.{sought-cell}
use Rattle.sound_passages.proofs.passages.cell_for.Goals as goal

pub returns : goal.returns
returns c = rw c.ok.ensures.value (sought-cell _ _ _ _ _ c.seek.result c.seek.ensures)
