-- `later_fits` meets its contract: it is the clause on the words that are read.
use Rattle.rules.specs.Opening.{day_fits}
use Rattle.rules.specs.RateLists.{list_in_range}
use Rattle.rules.specs.Tables.{list_from}
use Rattle.sound_lists.proofs.later_fits.Goals as goal

pub returns : goal.returns
unfolding list_in_range list_from day_fits
returns c = rw (c.day_fits.ensures, c.rates_fit-rates.ensures, c.later_day-day.ensures)
