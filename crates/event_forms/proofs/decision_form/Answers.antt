-- `decision_form` meets its contract.
use Rattle.rules.specs.Refusals.{decision_form}
use Rattle.event_forms.proofs.decision_form.Goals as goal

pub returns : goal.returns
unfolding decision_form
returns c = rw c.zero_from_c.ensures
