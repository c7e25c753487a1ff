-- `toll_form` meets its contract.
use Rattle.rules.specs.Refusals.{toll_form}
use Rattle.event_forms.proofs.toll_form.Goals as goal

pub returns : goal.returns
unfolding toll_form
returns c = rw c.zero_from_f.ensures
