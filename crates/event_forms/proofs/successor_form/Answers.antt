-- `successor_form` meets its contract.
use Rattle.rules.specs.Refusals.{successor_form}
use Rattle.event_forms.proofs.successor_form.Goals as goal

pub returns : goal.returns
unfolding successor_form
returns c = rw c.zero_from_b.ensures
