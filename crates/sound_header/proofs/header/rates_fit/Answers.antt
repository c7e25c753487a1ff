-- `rates_fit` meets its contract: six words, each tested.
use Rattle.rules.specs.Tables.{rates_from}
use Rattle.rules.specs.Schedule.{rates_fit}
use Rattle.sound_header.proofs.header.rates_fit.Goals as goal

pub returns : goal.returns
unfolding rates_fit rates_from
returns c =
    rw (c.rate_fits.ensures, c.rate_fits-2.ensures, c.rate_fits-3.ensures)
    (rw (c.rate_fits-4.ensures, c.rate_fits-5.ensures, c.rate_fits-6.ensures))
