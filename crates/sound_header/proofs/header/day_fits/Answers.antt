-- `day_fits` meets its contract: it is the clause.
use Rattle.rules.specs.Opening.{day_fits}
use Rattle.sound_header.proofs.header.day_fits.Goals as goal

pub returns : goal.returns
unfolding day_fits
returns c = c.between.ensures
