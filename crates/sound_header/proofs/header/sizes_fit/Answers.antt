-- `sizes_fit` meets its contract: it is the clause.
use Rattle.rules.specs.Opening.{sizes_fit}
use Rattle.sound_header.proofs.header.sizes_fit.Goals as goal

pub returns : goal.returns
unfolding sizes_fit
returns c = rw (c.between.ensures, c.between-2.ensures)
