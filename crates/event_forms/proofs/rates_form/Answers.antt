-- `rates_form` meets its contract.
use mathlib.Core.Path.{refl}
use Rattle.rules.specs.Schedule.{rates_fit}
use Rattle.event_forms.proofs.rates_form.Goals as goal

pub returns : goal.returns
unfolding rates_fit
returns c = refl
