-- `request_form` meets its contract.
use Rattle.rules.specs.Refusals.{request_form}
use Rattle.event_forms.proofs.request_form.Goals as goal

pub returns : goal.returns
unfolding request_form
returns c = rw c.zero_from_b.ensures
