-- `amount_fits` meets its contract: it is the clause.
use Rattle.rules.specs.Soundness.{amount_fits}
use Rattle.sound_rows.proofs.row.amount_fits.Goals as goal

pub returns : goal.returns
unfolding amount_fits
returns c = rw (c.between.ensures, c.most_of.ensures)
