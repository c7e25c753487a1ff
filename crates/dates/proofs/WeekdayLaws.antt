-- The weekdays of the dates go round in sevens from day 1, a Saturday: tested once, on the first of each month.
use mathlib.Core.Path.{◌≡◌}
use mathlib.Core.Bool.{Bool}
use Prim.Native.Nat.{ℕ, ◌+◌, ◌-◌, ◌/◌, ◌%◌, ◌≤◌, ◌<◌}
use native.Mathlib.Omega.{arith}
use lib.Dec.{eqb, eqb→eq}
use Rattle.dates.specs.Gregorian.{leap, month_days, days_of_month, month_start, InMonth, date_of}
use Rattle.dates.specs.Weekdays.{zeller, zeller_of, weekday}
use Rattle.dates.proofs.MonthPass.{every_from}
use Rattle.dates.proofs.MonthPassLaws.{every-at}
use Rattle.dates.proofs.GregorianLaws.{month-exists, month-in-century, date_of-month, century}

-- what month number m adds to the day, and the test of a month that starts on day s
unfoldable month_adds : ℕ → ℕ
month_adds m = zeller_of (2000 + m / 12) (m % 12 + 1)

unfoldable firsts_agree : ℕ → ℕ → Bool
firsts_agree m s = eqb ((1 + month_adds m) % 7) ((s + 6) % 7)

-- the first of each month of the century, by one computation
first-agrees : (m : ℕ) → m < 1200 → (1 + month_adds m) % 7 ≡ (month_start m + 6) % 7
unfolding every_from firsts_agree month_adds zeller_of zeller days_of_month month_days leap
first-agrees m h = eqb→eq _ _ (every-at firsts_agree 1200 tt m h)

-- n days on, both have moved on by n
days-on : (z s n : ℕ) → (1 + z) % 7 ≡ (s + 6) % 7 → (n + 1 + z) % 7 ≡ (s + n + 6) % 7
days-on z s n e = omega arith

weekday-in-month : (m day : ℕ) → m < 1200 → InMonth m day → weekday (date_of day) ≡ (day + 6) % 7
unfolding weekday month_adds
weekday-in-month m day h lies =
    let n : month_start m + (day - month_start m) ≡ day = omega (arith, lies.begun) in
    rw (date_of-month m day h lies) (rw n at (days-on (month_adds m) (month_start m) (day - month_start m) (first-agrees m h)))

-- day 1 is a Saturday, and each day is a weekday later than the day before it
pub weekday-of-day : (day : ℕ) → 1 ≤ day → day ≤ 36525 → weekday (date_of day) ≡ (day + 6) % 7
weekday-of-day day from until =
    let found = month-exists 1200 day from (omega (arith, century)) in
    weekday-in-month found.0 day (month-in-century found.0 day found.1 until) found.1
