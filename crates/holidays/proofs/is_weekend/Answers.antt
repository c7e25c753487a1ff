-- `is_weekend` meets its contract: its tests are those of a Saturday and of a Sunday.
use Rattle.rules.specs.BusinessDays.{saturday, sunday}
use mathlib.Core.Path.{refl}
use Rattle.holidays.proofs.is_weekend.Goals as goal

pub returns : goal.returns
unfolding saturday sunday
returns c = refl
