-- `topup_fits` meets its contract: it is the clause.
use Rattle.rules.specs.Soundness.{topup_fits}
use Rattle.sound_accounts.proofs.topup_fits.Goals as goal

pub returns : goal.returns
unfolding topup_fits
returns c = rw (c.implies.ensures, c.implies-2.ensures, c.implies-3.ensures)
