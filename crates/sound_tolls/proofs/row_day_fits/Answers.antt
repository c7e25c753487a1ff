-- `row_day_fits` meets its contract: it is the clause.
use Rattle.rules.specs.Soundness.{row_day_fits}
use Rattle.sound_tolls.proofs.row_day_fits.Goals as goal

pub returns : goal.returns
unfolding row_day_fits
returns c = c.between.ensures
