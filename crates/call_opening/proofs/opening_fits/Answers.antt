-- `opening_fits` meets its contract: a wrong number of words decides; else it is the clauses on day, schedule and rates.
use Rattle.call_rules.specs.Calls.{opening_fits}
use borrow.Author.Tests.{eq-eqb, ne_eqb}
use Rattle.call_opening.proofs.opening_fits.Goals as goal

pub returns-then-schedule-ne-OPENING_WIDTH : goal.returns-then-schedule-ne-OPENING_WIDTH
unfolding opening_fits
returns-then-schedule-ne-OPENING_WIDTH c = rw (ne_eqb _ _ c.if-schedule-ne-OPENING_WIDTH.true)

pub returns : goal.returns
unfolding opening_fits
returns c =
    rw (eq-eqb _ _ c.if-schedule-ne-OPENING_WIDTH.false, c.rates_fit.ensures, c.schedule_fits.ensures, c.day_fits-day.ensures, c.get.ensures)
