-- `tick_form` meets its contract.
use Rattle.rules.specs.Refusals.{tick_form}
use Rattle.event_forms.proofs.tick_form.Goals as goal

pub returns : goal.returns
unfolding tick_form
returns c = rw c.zero_from_b.ensures
