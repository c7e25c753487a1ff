-- Laws of the calendar: month starts rise, a day lies in exactly one month, and the date of a day is read off its month.
use mathlib.Core.Path.{◌≡◌, refl}
use mathlib.Core.Bool.{Bool, true, false}
use Prim.Native.Nat.{ℕ, zero, suc, ◌+◌, ◌-◌, ◌/◌, ◌%◌, ◌≤◌, ◌<◌}
use native.Mathlib.Nat.{add-zero, add-suc}
use native.Mathlib.Omega.{arith}
use lib.Dec.{leb, ltb}
use borrow.Author.Tests.{ltb-true, ltb-false, leb-true, leb-false}
use Rattle.dates.specs.Gregorian.{leap, month_days, days_of_month, month_start, InMonth, date_in, date_from, date_of}

month_start-adds : (m k : ℕ) → month_start m ≤ month_start (m + k)
unfolding month_start
month_start-adds m zero = rw add-zero (omega arith)
month_start-adds m (suc k) = rw add-suc (omega (arith, month_start-adds m k))

-- a later month starts no earlier
pub month_start-rises : (m n : ℕ) → m ≤ n → month_start m ≤ month_start n
month_start-rises m n h = let e : m + (n - m) ≡ n = omega arith in rw e at (month_start-adds m (n - m))

-- a month that has begun on a day comes before one that has not
pub month-before : (m n day : ℕ) → month_start m ≤ day → day < month_start n → m < n
month-before m n day begun later = go (ltb m n) refl
  where
    go : (t : Bool) → ltb m n ≡ t → m < n
    go true e = ltb-true m n e
    go false e = let r = month_start-rises n m (ltb-false m n e) in omega arith

-- a day lies in one month at most
pub month-unique : {m n day : ℕ} → InMonth m day → InMonth n day → m ≡ n
month-unique {m} {n} {day} a b =
    let p = month-before m (suc n) day a.begun b.lasts in
    let q = month-before n (suc m) day b.begun a.lasts in
    omega arith

-- a day from day 1 on lies in some month
pub month-exists : (n day : ℕ) → 1 ≤ day → day < month_start n → (m : ℕ) × InMonth m day
unfolding month_start
month-exists zero day from until = absurd (omega arith)
month-exists (suc n) day from until = go (λ h. month-exists n day from h) (ltb day (month_start n)) refl
  where
    go
        : (day < month_start n → (m : ℕ) × InMonth m day)
        → (t : Bool)
        → ltb day (month_start n) ≡ t
        → (m : ℕ) × InMonth m day
    go earlier true e = earlier (ltb-true day (month_start n) e)
    go earlier false e = (n, record { begun = ltb-false day (month_start n) e; lasts = until })

-- the century ends with day 36,525
pub century : month_start 1200 ≡ 36526
unfolding month_start days_of_month month_days leap
century = refl

-- a day of the century lies in one of its 1,200 months
pub month-in-century : (m day : ℕ) → InMonth m day → day ≤ 36525 → m < 1200
month-in-century m day lies until = month-before m 1200 day lies.begun (omega (arith, century))

-- walking on from a month that has begun gives the date in the day's own month
date_from-month
    : (n k m day : ℕ)
    → month_start k ≤ day
    → m < k + n
    → InMonth m day
    → date_from n k (day - month_start k + 1) ≡ date_in m (day - month_start m + 1)
unfolding date_from month_start
date_from-month zero k m day begun near lies =
    let p = month-before k (suc m) day begun lies.lasts in
    absurd (omega arith)
date_from-month (suc n) k m day begun near lies =
    go (λ past. date_from-month n (suc k) m day past (omega arith) lies)
    (leb (day - month_start k + 1) (days_of_month k)) refl
  where
    go
        : (month_start (suc k) ≤ day → date_from n (suc k) (day - month_start (suc k) + 1) ≡ date_in m (day - month_start m + 1))
        → (t : Bool)
        → leb (day - month_start k + 1) (days_of_month k) ≡ t
        → date_from (suc n) k (day - month_start k + 1) ≡ date_in m (day - month_start m + 1)
    go further true e =
        let p = month-before k (suc m) day begun lies.lasts in
        let q = month-before m (suc k) day lies.begun (omega (arith, leb-true)) in
        let same : k ≡ m = omega arith in
        rw (e, date_from, same)
    go further false e =
        let past : month_start (suc k) ≤ day = omega (arith, leb-false) in
        let minus : day - month_start k + 1 - days_of_month k ≡ day - month_start (suc k) + 1 = omega arith in
        rw (e, date_from, minus) (further past)

-- the date of a day, read off the month that it lies in
pub date_of-month
    : (m day : ℕ)
    → m < 1200
    → InMonth m day
    → date_of day ≡ record { year = 2000 + m / 12; month = m % 12 + 1; day = day - month_start m + 1 }
unfolding date_of date_in month_start
date_of-month m day near lies =
    let early = month_start-rises 0 m (omega arith) in
    let from : 1 ≤ day = omega arith in
    let first : day - 1 + 1 ≡ day = omega arith in
    rw first at (date_from-month 1200 0 m day from near lies)
