-- `dates::month_start` meets its contract: the table is the list of month starts that one pass computes from the lengths of the months.
use mathlib.Core.Path.{◌∙◌}
use borrow.Author.Rules.{rules}
use Rattle.dates.specs.Gregorian.{leap, month_days, days_of_month}
use Rattle.dates.proofs.MonthPass.{starts_from}
use Rattle.dates.proofs.MonthPassLaws.{starts-at}
use Rattle.dates.proofs.month_start.Goals as goal

-- the table and the computed list are compared here, entry by entry
pub returns : goal.returns
unfolding starts_from days_of_month month_days leap
returns c = c.from.ensures ∙ starts-at 1201 c.args.m (search rules)
