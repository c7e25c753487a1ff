-- Business days by the calendar (document 02, No. 6): what the rules say of day numbers is so of the dates that these have.
use mathlib.Core.Path.{◌≡◌, refl, sym}
use mathlib.Core.Bool.{Bool, true, false, not, ◌&&◌}
use Prim.Native.Nat.{ℕ, ◌+◌, ◌%◌, ◌≤◌}
use native.Mathlib.Omega.{arith}
use mathlib.Core.List.{List, [], ◌∷◌}
use borrow.Author.Tests.{eq-eqb, ne_eqb, eqb-true, eqb-false}
use Rattle.lists.specs.Tests.{◌is◌}
use Rattle.lists.specs.Lists.{exists, count, sum_by}
use Rattle.records.specs.Limits.{final_day, week_days}
use Rattle.dates.specs.Gregorian.{leap, month_days, days_of_month, date_in, date_from, date_of}
use Rattle.dates.specs.Weekdays.{on_saturday, on_sunday, on_thursday, zeller, zeller_of, weekday}
use Rattle.dates.proofs.WeekdayLaws.{weekday-of-day}
use Rattle.rules.specs.BusinessDays.{saturday, sunday, holiday, business_day}

-- two tests that hold together
same-test : (a b c d : ℕ) → (a ≡ b → c ≡ d) → (c ≡ d → a ≡ b) → a is b ≡ c is d
same-test a b c d f g = go (a is b) refl
  where
    go : (t : Bool) → a is b ≡ t → t ≡ c is d
    go true e = sym (eq-eqb c d (f (eqb-true a b e)))
    go false e = sym (ne_eqb c d (λ h. eqb-false a b e (g h)))

module _ (day : ℕ) (from : 1 ≤ day) (until : day ≤ final_day) where
  -- the days that the rules call Saturdays are those whose dates are
  pub saturday-dated : saturday day ≡ weekday (date_of day) is on_saturday
  unfolding saturday
  saturday-dated = rw (weekday-of-day day from until)
      (same-test (day % week_days) 1 ((day + 6) % 7) 0 (λ e. omega (arith, e)) (λ e. omega (arith, e)))

  pub sunday-dated : sunday day ≡ weekday (date_of day) is on_sunday
  unfolding sunday
  sunday-dated = rw (weekday-of-day day from until)
      (same-test (day % week_days) 2 ((day + 6) % 7) 1 (λ e. omega (arith, e)) (λ e. omega (arith, e)))

  -- "Business days are days other than Saturday, Sunday and listed ones"
  pub business-dated
      : (hs : List ℕ)
      → business_day hs day ≡ not (weekday (date_of day) is on_saturday) && not (weekday (date_of day) is on_sunday) && not (holiday hs day)
  unfolding business_day
  business-dated hs = rw (saturday-dated, sunday-dated)

-- "day 1 is a Saturday", 2000-01-01, and day 20 a Thursday
pub day-1-dated : date_of 1 ≡ record { year = 2000; month = 1; day = 1 }
unfolding date_of date_from date_in days_of_month month_days leap
day-1-dated = refl

pub day-1-saturday : weekday (date_of 1) ≡ on_saturday
unfolding weekday zeller_of zeller date_of date_from date_in days_of_month month_days leap
day-1-saturday = refl

pub day-20-thursday : weekday (date_of 20) ≡ on_thursday
unfolding weekday zeller_of zeller date_of date_from date_in days_of_month month_days leap
day-20-thursday = refl

-- a Saturday, a Thursday, and a Thursday that is listed
pub business-days : (business_day [] 1 ≡ false) × (business_day [] 20 ≡ true) × (business_day (20 ∷ []) 20 ≡ false)
unfolding business_day saturday sunday holiday exists count sum_by
business-days = (refl, refl, refl)
