-- `kind_fits` meets its contract: it is the clause.
use Rattle.rules.specs.Soundness.{kind_fits}
use Rattle.sound_rows.proofs.row.kind_fits.Goals as goal

pub returns : goal.returns
unfolding kind_fits
returns c = c.between.ensures
