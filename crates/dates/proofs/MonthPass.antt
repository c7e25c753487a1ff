-- What the computed tests run: one pass over the months, each start from the one before, and what an estimate has to pass at each.
use mathlib.Core.Bool.{Bool, true, ◌&&◌}
use mathlib.Core.List.{List, [], ◌∷◌}
use Prim.Native.Nat.{ℕ, zero, suc, ◌+◌, ◌-◌, ◌*◌, ◌/◌}
use lib.Dec.{leb}
use Rattle.dates.specs.Gregorian.{days_of_month}

-- the starts of n months, of which the first is month number m and starts on day s
unfoldable pub starts_from : ℕ → ℕ → ℕ → List ℕ
starts_from zero m s = []
starts_from (suc n) m s = s ∷ starts_from n (suc m) (s + days_of_month m)

-- the test passes at the number and the start of each of those months
unfoldable pub every_from : (ℕ → ℕ → Bool) → ℕ → ℕ → ℕ → Bool
every_from test zero m s = true
every_from test (suc n) m s = test m s && every_from test n (suc m) (s + days_of_month m)

-- the month that a day has by a mean of so many months in so many days, the day moved on by an offset
abbrev pub estimate : ℕ → ℕ → ℕ → ℕ → ℕ
estimate offset months days day = (day + offset) * months / days

-- an estimate turns to month number m in time: it is at least m on the first of m, and at most m on the day before
unfoldable pub turns : (ℕ → ℕ) → ℕ → ℕ → Bool
turns f m s = leb m (f s) && leb (f (s - 1)) m
