-- Business days (document 02, No. 6).
use Rattle.std.specs.Prelude.{Bool, not, ◌&&◌, ℕ, ◌-◌, ◌%◌, List, ◌∷◌, length, get_or, leb, ltb}
use Rattle.lists.specs.Tests.{◌is◌, ◌from◌to◌}
use Rattle.lists.specs.Lists.{exists, every}
use Rattle.records.specs.Limits.{week_days, final_day, most_holidays}

-- "day 1 is a Saturday", and so is each day a whole number of weeks after it
unfoldable pub saturday : ℕ → Bool
saturday day = day % week_days is 1

-- the day after a Saturday
unfoldable pub sunday : ℕ → Bool
sunday day = day % week_days is 2

-- a listed day
unfoldable pub holiday : List ℕ → ℕ → Bool
holiday hs day = exists (λ h. h is day) hs

-- "Business days are days other than Saturday, Sunday and listed ones"
unfoldable pub business_day : List ℕ → ℕ → Bool
business_day hs day = not (saturday day) && not (sunday day) && not (holiday hs day)

-- ---- the list

-- holiday number n of a list, counted from 1; 0, before every day, where there is none
abbrev pub holiday_no : List ℕ → ℕ → ℕ
holiday_no hs n = get_or (0 ∷ hs) n 0

-- holiday number n: "strictly rising, each 1 to 36,525"
unfoldable pub holiday_fits : List ℕ → ℕ → ℕ → Bool
holiday_fits hs n h = h from 1 to final_day && ltb (holiday_no hs (n - 1)) h

-- "a lent list of at most 400 holidays, strictly rising, each 1 to 36,525"
unfoldable pub holidays_fit : List ℕ → Bool
holidays_fit hs = leb (length hs) most_holidays && every (holiday_fits hs) hs
