-- `dates::estimate` meets its contract: it is tested once, at the start of every month.
use borrow.Author.Rules.{rules}
use Rattle.dates.specs.Gregorian.{leap, month_days, days_of_month}
use Rattle.dates.proofs.MonthPass.{every_from, turns}
use Rattle.dates.proofs.EstimateLaws.{estimate-near}
use Rattle.dates.proofs.estimate.Goals as goal

pub returns : goal.returns
unfolding every_from turns days_of_month month_days leap
returns c = estimate-near _ _ _ tt c.args.day (search rules) (search rules)
