-- `dispute_form` meets its contract.
use Rattle.rules.specs.Refusals.{dispute_form}
use Rattle.event_forms.proofs.dispute_form.Goals as goal

pub returns : goal.returns
unfolding dispute_form
returns c = rw c.zero_from_b.ensures
