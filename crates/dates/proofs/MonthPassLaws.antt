-- Laws of the pass over the months: its entries are the month starts, and a test that it passes holds at each month.
use mathlib.Core.Path.{◌≡◌}
use mathlib.Core.Bool.{Bool}
use Prim.Native.Nat.{ℕ, zero, suc, ◌+◌, ◌<◌}
use native.Mathlib.Nat.{add-zero, zero-add}
use native.Mathlib.Omega.{arith}
use lib.Dec.{T}
use lib.ListN.{get_or}
use mir.Facts.{and_yes}
use Rattle.dates.specs.Gregorian.{days_of_month, month_start}
use Rattle.dates.proofs.MonthPass.{starts_from, every_from}

starts_from-at : (n m k : ℕ) → k < n → get_or (starts_from n m (month_start m)) k 0 ≡ month_start (m + k)
unfolding starts_from month_start
starts_from-at zero m k h = absurd (omega arith)
starts_from-at (suc n) m zero h = rw add-zero
starts_from-at (suc n) m (suc k) h =
    let e : m + suc k ≡ suc m + k = omega arith in
    rw e (starts_from-at n (suc m) k (omega arith))

-- entry k is the start of month number k
pub starts-at : (n k : ℕ) → k < n → get_or (starts_from n 0 1) k 0 ≡ month_start k
unfolding month_start
starts-at n k h = rw zero-add at (starts_from-at n 0 k h)

module _ (test : ℕ → ℕ → Bool) where
  every_from-at : (n m : ℕ) → T (every_from test n m (month_start m)) → (k : ℕ) → k < n → T (test (m + k) (month_start (m + k)))
  unfolding every_from month_start
  every_from-at zero m passed k h = absurd (omega arith)
  every_from-at (suc n) m passed zero h =
      rw add-zero (and_yes (test m (month_start m)) (every_from test n (suc m) (month_start m + days_of_month m)) passed).0
  every_from-at (suc n) m passed (suc k) h =
      let e : m + suc k ≡ suc m + k = omega arith in
      let rest = (and_yes (test m (month_start m)) (every_from test n (suc m) (month_start m + days_of_month m)) passed).1 in
      rw e (every_from-at n (suc m) rest k (omega arith))

  -- a test of the first n months holds at each of them
  pub every-at : (n : ℕ) → T (every_from test n 0 1) → (k : ℕ) → k < n → T (test k (month_start k))
  unfolding month_start
  every-at n passed k h = rw zero-add at (every_from-at n 0 passed k h)
