-- `list_form` meets its contract.
use Rattle.rules.specs.RateLists.{list_in_range}
use Rattle.rules.specs.Refusals.{list_form}
use Rattle.event_forms.proofs.list_form.Goals as goal

pub returns : goal.returns
unfolding list_form list_in_range
returns c = rw c.rates_form.ensures
