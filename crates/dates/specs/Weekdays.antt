-- The weekday of a Gregorian date by Zeller's congruence, the calendar's own rule: it knows no day numbers.
use Rattle.std.specs.Prelude.{cond, ℕ, ◌+◌, ◌-◌, ◌*◌, ◌/◌, ◌%◌, leb}
use Rattle.dates.specs.declared.Date.{Date}

-- what month m, 3 to 14, of year y adds to the day
unfoldable pub zeller : ℕ → ℕ → ℕ
zeller y m = 13 * (m + 1) / 5 + y + y / 4 - y / 100 + y / 400

-- January and February are counted as months 13 and 14 of the year before
unfoldable pub zeller_of : ℕ → ℕ → ℕ
zeller_of y m = cond (leb m 2) (zeller (y - 1) (m + 12)) (zeller y m)

-- the weekday: 0 a Saturday, 1 a Sunday, .. 6 a Friday
unfoldable pub weekday : Date → ℕ
weekday t = (t.day + zeller_of t.year t.month) % 7

abbrev pub on_saturday : ℕ
on_saturday = 0

abbrev pub on_sunday : ℕ
on_sunday = 1

abbrev pub on_thursday : ℕ
on_thursday = 5
