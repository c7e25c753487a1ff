-- `reserve_form` meets its contract.
use Rattle.rules.specs.Refusals.{reserve_form}
use Rattle.event_forms.proofs.reserve_form.Goals as goal

pub returns : goal.returns
unfolding reserve_form
returns c = rw c.zero_from_b.ensures
