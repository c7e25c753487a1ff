-- `state_fits` meets its contract: it is the clause.
use mathlib.Core.Path.{refl}
use Rattle.rules.specs.Soundness.{state_fits}
use Rattle.sound_accounts.proofs.state_fits.Goals as goal

pub returns : goal.returns
unfolding state_fits
returns c = refl
