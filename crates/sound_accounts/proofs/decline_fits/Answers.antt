-- `decline_fits` meets its contract: it is the clause.
use mathlib.Core.Path.{refl}
use Rattle.rules.specs.Soundness.{decline_fits}
use Rattle.sound_accounts.proofs.decline_fits.Goals as goal

pub returns : goal.returns
unfolding decline_fits
returns c = refl
