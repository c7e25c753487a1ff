-- `schedule_fits` meets its contract: four words, each tested.
use Rattle.rules.specs.Tables.{schedule_from}
use Rattle.rules.specs.Schedule.{schedule_fits}
use Rattle.sound_header.proofs.header.schedule_fits.Goals as goal

pub returns : goal.returns
unfolding schedule_fits schedule_from
returns c = rw (c.between-stage.ensures, c.get.ensures, c.fee_fits.ensures, c.fee_fits-2.ensures, c.fee_fits-3.ensures)
