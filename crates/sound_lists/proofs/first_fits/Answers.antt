-- `first_fits` meets its contract: it is the clause on the words that are read.
use Rattle.rules.specs.Opening.{day_fits}
use Rattle.rules.specs.RateLists.{list_in_range}
use Rattle.rules.specs.Tables.{first_list_in}
use Rattle.sound_lists.proofs.first_fits.Goals as goal

pub returns : goal.returns
unfolding list_in_range first_list_in day_fits
returns c = rw (c.day_fits.ensures, c.get.ensures, c.rates_fit.ensures)
