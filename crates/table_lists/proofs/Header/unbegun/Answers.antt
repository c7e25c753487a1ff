-- `unbegun` meets its contract: it is the test on the day that is read.
use mathlib.Core.Path.{refl}
use Rattle.table_lists.proofs.Header.unbegun.Goals as goal

pub returns : goal.returns
returns c = rw c.later_day-begins.ensures refl
