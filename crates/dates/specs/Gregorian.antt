-- The Gregorian calendar from 2000 on, as day numbers: day 1 is 2000-01-01, and month number 0 is January 2000.
use Rattle.std.specs.Prelude.{Bool, true, false, cond, not, ◌&&◌, ◌||◌, [], ◌∷◌, ℕ, zero, suc, ◌+◌, ◌-◌, ◌/◌, ◌%◌, ◌≤◌, ◌<◌, eqb, leb, get_or}
use Rattle.dates.specs.declared.Date.{Date}

-- a leap year: 4 divides it, and 100 does not unless 400 does
unfoldable pub leap : ℕ → Bool
leap y = eqb (y % 4) 0 && (not (eqb (y % 100) 0) || eqb (y % 400) 0)

-- the length of a month, 1 to 12, of a year
unfoldable pub month_days : ℕ → ℕ → ℕ
month_days y m =
    get_or (31 ∷ cond (leap y) 29 28 ∷ 31 ∷ 30 ∷ 31 ∷ 30 ∷ 31 ∷ 31 ∷ 30 ∷ 31 ∷ 30 ∷ 31 ∷ []) (m - 1) 0

-- the length of month number m
unfoldable pub days_of_month : ℕ → ℕ
days_of_month m = month_days (2000 + m / 12) (m % 12 + 1)

-- the day number of the first of month number m
unfoldable pub month_start : ℕ → ℕ
month_start zero = 1
month_start (suc m) = month_start m + days_of_month m

-- the day lies in month number m
pub record InMonth (m day : ℕ) : Type 0 where
  pub begun : month_start m ≤ day
  pub lasts : day < month_start (suc m)

-- the day lies in month number next or in the one before
pub record Near (next day : ℕ) : Type 0 where
  pub begun : month_start (next - 1) ≤ day
  pub lasts : day < month_start (suc next)

-- the date of the d-th day of month number m
unfoldable pub date_in : ℕ → ℕ → Date
date_in m d = record { year = 2000 + m / 12; month = m % 12 + 1; day = d }

-- the date of the d-th day from the first of month number m on: while the day is past the month, that month is taken off, n times at most
unfoldable pub date_from : ℕ → ℕ → ℕ → Date
date_from zero m d = date_in m d
date_from (suc n) m d =
    elim (leb d (days_of_month m)) [ true ↦ date_in m d | false ↦ date_from n (suc m) (d - days_of_month m) ]

-- the date of a day number from 1 to 36,525: of a century, which has 1,200 months
unfoldable pub date_of : ℕ → Date
date_of d = date_from 1200 0 d
