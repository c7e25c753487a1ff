-- `payment_form` meets its contract.
use Rattle.rules.specs.Refusals.{payment_form}
use Rattle.event_forms.proofs.payment_form.Goals as goal

pub returns : goal.returns
unfolding payment_form
returns c = rw c.zero_from_c.ensures
