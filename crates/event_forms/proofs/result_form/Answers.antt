-- `result_form` meets its contract.
use Rattle.rules.specs.Refusals.{result_form}
use Rattle.event_forms.proofs.result_form.Goals as goal

pub returns : goal.returns
unfolding result_form
returns c = rw c.zero_from_c.ensures
