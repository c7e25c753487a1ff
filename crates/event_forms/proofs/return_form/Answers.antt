-- `return_form` meets its contract.
use Rattle.rules.specs.Refusals.{return_form}
use Rattle.event_forms.proofs.return_form.Goals as goal

pub returns : goal.returns
unfolding return_form
returns c = rw c.zero_from_c.ensures
