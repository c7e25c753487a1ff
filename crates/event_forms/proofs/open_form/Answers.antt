-- `open_form` meets its contract.
use Rattle.lists.specs.Tests.{◌is◌}
use Rattle.lists.proofs.TestLaws.{or-implies}
use Rattle.rules.specs.Refusals.{open_form}
use Rattle.event_forms.proofs.open_form.Goals as goal

pub returns : goal.returns
unfolding open_form
returns c = rw (c.zero_from_c.ensures, or-implies (_ is 0) (_ is 0))
