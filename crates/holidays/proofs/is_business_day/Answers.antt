-- `is_business_day` meets its contract: a weekend decides, and so does the list where there is none.
use Rattle.holidays.proofs.HolidayLaws.{weekend-shut, weekday-open}
use mathlib.Core.Path.{sym, ◌∙◌}
use Rattle.holidays.proofs.is_business_day.Goals as goal

pub returns-then-is_weekend : goal.returns-then-is_weekend
returns-then-is_weekend c = sym (weekend-shut _ _ (sym c.is_weekend.ensures ∙ c.if-is_weekend.true))

pub returns : goal.returns
returns c = rw c.is_listed.ensures (sym (weekday-open _ _ (sym c.is_weekend.ensures ∙ c.if-is_weekend.false)))
