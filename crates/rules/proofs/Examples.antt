-- Document 01's marked examples M2 to M9, computed from the definitions. M1 is a listing: the table of all nine is listing_rules' (Examples).
use mathlib.Core.Path.{◌≡◌, refl}
use Prim.Native.Nat.{ℕ}
use mathlib.Core.List.{List, [], ◌∷◌, ◌++◌, map}
use lib.ListN.{length, replicate}
use lib.IntN.{ℤ, pos}
use Rattle.dates.specs.declared.Date.{Date}
use Rattle.dates.specs.Gregorian.{date_of}
use Rattle.rules.specs.Schedule.{Rates, Schedule, class}
use Rattle.rules.specs.Book.{Instruction, Book, account, row}
use Rattle.rules.specs.Posting.{book_after, answers_to}
use Rattle.rules.specs.Opening.{opening}
use Rattle.rules.proofs.Computing.{computing}

-- ---- how cases are written

-- an event's words but for f and g, which are 0
abbrev pub event : ℕ → ℕ → ℕ → ℕ → ℕ → ℕ → ℕ → Instruction
event k n a b c d e = record { kind = k; account = n; a = a; b = b; c = c; d = d; e = e; f = 0; g = 0 }

abbrev pub ticks : ℕ → List Instruction
ticks n = replicate n (event 9 0 0 0 0 0 0)

-- the schedule of M1
abbrev pub schedule : Schedule
schedule = record { stage = 30; fee2 = 500; fee3 = 2500; fee4 = 3000 }

-- and its rates
abbrev pub rates : Rates
rates = record { tag1 = 250; plate1 = 500; tag2 = 600; plate2 = 900; tag3 = 1200; plate3 = 1600 }

-- a book of two accounts and sixteen rows, opened on a day
abbrev pub small : ℕ → Book
small day = opening day schedule rates 2 16

abbrev pub numbers : Book → List Instruction → List ℕ
numbers b es = map (λ a. a.number) (answers_to b es)

-- what is computed, and what document 01 says
pub record Case : Type 0 where
  pub got : List ℤ
  pub want : List ℤ

infix 5 ◌gives◌
abbrev pub ◌gives◌ : List ℕ → List ℕ → Case
g gives w = record { got = map pos g; want = map pos w }

-- the same for one integer
infix 5 ◌amounts-to◌
abbrev pub ◌amounts-to◌ : ℤ → ℤ → Case
g amounts-to w = record { got = g ∷ []; want = w ∷ [] }

-- ---- M6, M7: an unpaid toll of account 1

abbrev unpaid : List Instruction
unpaid = event 1 1 0 0 0 0 0 ∷ event 2 1 41 1 2 60 2 ∷ []

abbrev stage_and_fee : Book → List ℕ
stage_and_fee b = (row b 1).mark ∷ length b.rows ∷ (row b 2).kind ∷ (row b 2).amount ∷ (row b 2).reference ∷ []

abbrev disputed : ℕ → Book
disputed n = book_after (small 10) (unpaid ++ event 5 1 1 0 0 0 0 ∷ ticks n)

-- ---- M8: a close request on day 5

abbrev requested : ℕ → Book
requested n = book_after (small 5) (event 1 1 0 0 0 0 0 ∷ event 8 1 0 0 0 0 0 ∷ ticks n)

-- ---- M9: a date's year, month and day of month

abbrev date_line : Date → List ℕ
date_line d = d.year ∷ d.month ∷ d.day ∷ []

-- ---- the table

unfoldable pub cases : List Case
cases =
    -- M2: 2 axles, 90: class 1; 91: class 2
    (class 2 90 ∷ class 2 91 ∷ [] gives 1 ∷ 2 ∷ [])
    -- M3: 1 axle, 91: 6
    ∷ (numbers (small 1) (event 1 1 0 0 0 0 0 ∷ event 2 1 41 1 1 91 1 ∷ []) gives 0 ∷ 6 ∷ [])
    -- M4: 4 axles: 2; 5: 3
    ∷ (class 4 90 ∷ class 5 90 ∷ [] gives 2 ∷ 3 ∷ [])
    -- M5: 60 days back posts, 61 gives 7
    ∷ (numbers (small 62) (event 1 1 0 0 0 0 0 ∷ event 2 1 41 2 2 60 2 ∷ event 2 1 42 1 2 60 2 ∷ []) gives 0 ∷ 0 ∷ 7 ∷ [])
    -- M6: L 30, unpaid: 29 ticks stage 0, 30 stage 1, 60 stage 2 with its fee
    ∷ (stage_and_fee (book_after (small 1) (unpaid ++ ticks 29)) gives 0 ∷ 1 ∷ 0 ∷ 0 ∷ 0 ∷ [])
    ∷ (stage_and_fee (book_after (small 1) (unpaid ++ ticks 30)) gives 1 ∷ 1 ∷ 0 ∷ 0 ∷ 0 ∷ [])
    ∷ (stage_and_fee (book_after (small 1) (unpaid ++ ticks 60)) gives 2 ∷ 2 ∷ 2 ∷ 500 ∷ 1 ∷ [])
    -- M7: disputed day 10: held on 39, free on 40
    ∷ ((disputed 29).day ∷ (row (disputed 29) 1).dispute ∷ [] gives 39 ∷ 1 ∷ [])
    ∷ ((disputed 30).day ∷ (row (disputed 30) 1).dispute ∷ [] gives 40 ∷ 2 ∷ [])
    -- M8: request day 5: closes on 20
    ∷ ((requested 14).day ∷ (account (requested 14) 1).state ∷ [] gives 19 ∷ 2 ∷ [])
    ∷ ((requested 15).day ∷ (account (requested 15) 1).state ∷ [] gives 20 ∷ 3 ∷ [])
    -- M9: day 60 is 2000-02-29, 61 is 2000-03-01
    ∷ (date_line (date_of 60) gives 2000 ∷ 2 ∷ 29 ∷ [])
    ∷ (date_line (date_of 61) gives 2000 ∷ 3 ∷ 1 ∷ [])
    ∷ []

-- every case computes to what document 01 says
pub examples : map (λ c. c.got) cases ≡ map (λ c. c.want) cases
unfolding computing cases
examples = refl
