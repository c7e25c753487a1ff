-- `zero_from_c` meets its contract.
use Rattle.event_forms.proofs.zero_from_c.Goals as goal

pub returns : goal.returns
returns c = rw c.zero_from_f.ensures
