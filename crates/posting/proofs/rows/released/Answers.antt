-- `rows::released` meets its contract.
use mathlib.Core.Path.{refl}
use Rattle.rules.specs.Events.{release}
use Rattle.posting.proofs.rows.released.Goals as goal

pub returns : goal.returns
unfolding release
returns c = refl
