-- Business days at their limits (document 02, No. 6), computed from the definitions: closings, what else a tick does, the list of holidays.
use mathlib.Core.Path.{◌≡◌, refl}
use Prim.Native.Nat.{ℕ, ◌+◌}
use mathlib.Core.List.{List, [], ◌∷◌, ◌++◌, map}
use lib.IntN.{ℤ, pos}
use Rattle.lists.specs.Lists.{tabulate}
use Rattle.rules.specs.BusinessDays.{business_day, holidays_fit}
use Rattle.rules.specs.Book.{Instruction, with_holidays, account, row}
use Rattle.rules.specs.Posting.{book_after}
use Rattle.rules.specs.Tables.{Tables, tables_of, tables_with, sound_tables}
use Rattle.rules.proofs.Computing.{computing}
use Rattle.rules.proofs.Examples.{Case, ◌gives◌, event, ticks, small}
use Rattle.rules.proofs.Borders.{◌are◌}

-- ---- how cases are written

-- account 1 opened, and its closing requested on day 2, a Sunday: its 15 days are over on day 17, a Monday
abbrev requested : List Instruction
requested = ticks 1 ++ (event 1 1 0 0 0 0 0 ∷ event 8 1 0 0 0 0 0 ∷ [])

-- its state so many days after the request, where these days are listed
abbrev state_after : List ℕ → ℕ → ℕ
state_after hs n = (account (book_after (with_holidays hs (small 1)) (requested ++ ticks n)) 1).state

-- the same where a debt of 500, of day 2, is paid n days after the request
abbrev indebted : ℕ → List Instruction
indebted n = ticks 1 ++ (event 1 1 0 0 0 0 0 ∷ event 2 1 41 1 2 60 2 ∷ event 8 1 0 0 0 0 0 ∷ ticks n ++ (event 3 1 500 2 0 0 0 ∷ []))

abbrev state_paid : ℕ → ℕ → ℕ
state_paid n m = (account (book_after (small 1) (indebted n ++ ticks m)) 1).state

-- a toll of day 1, unpaid: its stage on day 31, a Monday, where these days are listed; and on day 37, a Sunday, of a toll of day 7
abbrev stage_on : ℕ → List ℕ → ℕ → ℕ
stage_on day hs n = (row (book_after (with_holidays hs (small day)) (event 1 1 0 0 0 0 0 ∷ event 2 1 41 day 2 60 2 ∷ ticks n)) 1).mark

-- a toll disputed on day 7: whether its hold has ended on day 37, a Sunday
abbrev dispute_after : ℕ → ℕ
dispute_after n = (row (book_after (small 7) (event 1 1 0 0 0 0 0 ∷ event 2 1 41 7 2 60 2 ∷ event 5 1 1 0 0 0 0 ∷ ticks n)) 1).dispute

-- the first n days
abbrev pub days : ℕ → List ℤ
days n = tabulate (λ k. pos (k + 1)) n

-- the opened book with another list
abbrev changed : List ℤ → Tables
changed hs = tables_with hs (tables_of (with_holidays (1 ∷ 2 ∷ 3 ∷ []) (small 1)))

pub cases : List Case
cases =
    -- business days: Saturday and Sunday are none, day 3 is a Monday; a listed day is none; the list may name weekends and be empty
    (map (λ d. business_day [] d) (1 ∷ 2 ∷ 3 ∷ 7 ∷ 8 ∷ 9 ∷ 10 ∷ []) are 0 ∷ 0 ∷ 1 ∷ 1 ∷ 0 ∷ 0 ∷ 1 ∷ [])
    ∷ (map (λ d. business_day (3 ∷ 8 ∷ 11 ∷ []) d) (3 ∷ 4 ∷ 8 ∷ 10 ∷ 11 ∷ 12 ∷ []) are 0 ∷ 1 ∷ 0 ∷ 1 ∷ 0 ∷ 1 ∷ [])
    -- closes on the first business day at least request + 15: day 17; day 18 where day 17 is listed
    ∷ (map (state_after []) (14 ∷ 15 ∷ []) gives 2 ∷ 3 ∷ [])
    ∷ (map (state_after (17 ∷ [])) (15 ∷ 16 ∷ []) gives 2 ∷ 3 ∷ [])
    -- day 17 to Friday, day 21, listed: closes on Monday, day 24
    ∷ (map (state_after (17 ∷ 18 ∷ 19 ∷ 20 ∷ 21 ∷ [])) (19 ∷ 20 ∷ 21 ∷ 22 ∷ []) gives 2 ∷ 2 ∷ 2 ∷ 3 ∷ [])
    -- a later business day closes it too: the debt is paid on day 18, or on Friday, day 21
    ∷ (state_paid 16 0 ∷ state_paid 16 1 ∷ state_paid 19 1 ∷ state_paid 19 2 ∷ state_paid 19 3 ∷ [] gives 2 ∷ 3 ∷ 2 ∷ 2 ∷ 3 ∷ [])
    -- stages rise on holidays and Sundays, holds end on Sundays
    ∷ (stage_on 1 (31 ∷ []) 30 ∷ stage_on 7 [] 29 ∷ stage_on 7 [] 30 ∷ [] gives 1 ∷ 0 ∷ 1 ∷ [])
    ∷ (map dispute_after (29 ∷ 30 ∷ []) gives 1 ∷ 2 ∷ [])
    -- the list: 400 days, 401; in order, twice the same, falling; day 0, day 36,525, the day after
    ∷ (map (λ hs. holidays_fit hs) ([] ∷ (1 ∷ 2 ∷ []) ∷ (2 ∷ 2 ∷ []) ∷ (3 ∷ 2 ∷ []) ∷ (0 ∷ 2 ∷ []) ∷ (1 ∷ 36_525 ∷ []) ∷ (1 ∷ 36_526 ∷ []) ∷ [])
    are 1 ∷ 1 ∷ 0 ∷ 0 ∷ 0 ∷ 1 ∷ 0 ∷ [])
    ∷ (map (λ n. holidays_fit (tabulate (λ k. k + 1) n)) (400 ∷ 401 ∷ []) are 1 ∷ 0 ∷ [])
    -- such a list makes the book unsound
    ∷ (map (λ hs. sound_tables (changed hs)) (days 3 ∷ [] ∷ days 401 ∷ (pos 4 ∷ pos 4 ∷ []) ∷ (pos 0 ∷ []) ∷ []) are 1 ∷ 1 ∷ 0 ∷ 0 ∷ 0 ∷ [])
    ∷ []

pub business-day-examples : map (λ c. c.got) cases ≡ map (λ c. c.want) cases
unfolding computing cases
business-day-examples = refl
