-- Each limit of document 01 at its border and one past it, and the answers that no other table gives, computed from the definitions.
use mathlib.Core.Path.{◌≡◌, refl}
use mathlib.Core.Bool.{Bool, cond}
use Prim.Native.Nat.{ℕ}
use mathlib.Core.List.{List, [], ◌∷◌, ◌++◌, map}
use lib.ListN.{length, replicate, set}
use lib.IntN.{pos}
use Rattle.lists.specs.Lists.{count}
use Rattle.records.specs.Updates.{unused, with_state, with_request, with_returned, with_topup, with_declines, with_reserve}
use Rattle.rules.specs.Schedule.{Rates, Schedule, class, rates_fit, schedule_fits}
use Rattle.rules.specs.ClassCases.{class_cases}
use Rattle.rules.specs.Rows.{Row, with_settled, with_mark, with_due, with_dispute, with_hold_start, with_reference, new_row}
use Rattle.rules.specs.Book.{Account, Instruction, Book, account, row}
use Rattle.rules.specs.Events.{toll_rate}
use Rattle.rules.specs.Refusals.{well_formed, answer_number}
use Rattle.rules.specs.Posting.{book_after}
use Rattle.rules.specs.Opening.{opening, day_fits, sizes_fit}
use Rattle.rules.specs.Soundness.{kind_fits, amount_fits, settled_fits, mark_fits, toll_words_fit, no_reference, row_day_fits, due_fits, hold_fits, account_used, reference_fits, passage_once, fees_fit, state_fits, unused_zero, request_fits, topup_fits, decline_fits, returned_fits, used_is_paid, no_idle_money, closed_clear}
use Rattle.rules.specs.Tables.{Tables, tables_at, tables_of, sound_tables}
use Rattle.rules.proofs.Computing.{computing}
use Rattle.rules.proofs.Examples.{Case, ◌gives◌, event, ticks, schedule, rates, small, numbers}

-- ---- how cases are written

-- tests, and 1 for each that holds
infix 5 ◌are◌
abbrev pub ◌are◌ : List Bool → List ℕ → Case
bs are ns = record { got = map (λ b. cond b (pos 1) (pos 0)) bs; want = map pos ns }

-- ---- the schedule

-- a schedule of stage length and fees
abbrev fees_of : ℕ → ℕ → ℕ → ℕ → Schedule
fees_of L f2 f3 f4 = record { stage = L; fee2 = f2; fee3 = f3; fee4 = f4 }

-- six rates
abbrev rates_of : ℕ → ℕ → ℕ → ℕ → ℕ → ℕ → Rates
rates_of a b c d e f = record { tag1 = a; plate1 = b; tag2 = c; plate2 = d; tag3 = e; plate3 = f }

-- the six rates that are `x` but for one of them, which is `n`
abbrev but_one : ℕ → ℕ → List Rates
but_one x n =
    rates_of n x x x x x ∷ rates_of x n x x x x ∷ rates_of x x n x x x ∷ rates_of x x x n x x ∷ rates_of x x x x n x ∷ rates_of x x x x x n ∷ []

-- ---- rows and accounts

-- a row of account 1 and day 1, of a kind and an amount
abbrev a_row : ℕ → ℕ → Row
a_row kind amount = new_row kind 1 1 amount

-- an unsettled toll of 100 by stage and due day
abbrev toll_at : ℕ → ℕ → Row
toll_at stage due = with_mark stage (with_due due (a_row 1 100))

-- the toll held from a day on
abbrev held_at : ℕ → Row → Row
held_at day r = with_hold_start day (with_dispute 1 r)

-- a fee of 100 that names a row
abbrev fee_of : ℕ → Row
fee_of n = with_reference n (a_row 2 100)

-- an account's words but its reserve, which is 0
abbrev an_account : ℕ → ℕ → ℕ → ℕ → ℕ → ℕ → ℕ → Account
an_account s q r t a n d = with_declines n d (with_topup t a (with_returned r (with_request q (with_state s unused))))

-- an open account by its top-up words
abbrev topped_up : ℕ → ℕ → ℕ → ℕ → Account
topped_up t a n d = an_account 1 0 0 t a n d

-- ---- books

-- account 1 opened
abbrev open_one : Instruction
open_one = event 1 1 0 0 0 0 0

-- opened on day 1, closed on day 17, a Monday, as day 16 is a Sunday
abbrev closed_one : List Instruction
closed_one = open_one ∷ event 3 1 100 3 0 0 0 ∷ event 8 1 0 0 0 0 0 ∷ ticks 16

-- stages of one day: an unpaid toll after n ticks
abbrev daily : ℕ → Book
daily n =
    book_after (opening 1 (fees_of 1 20 30 40) rates 1 8)
    (open_one ∷ event 2 1 41 1 2 60 2 ∷ ticks n)

-- its stage, and its fees
abbrev stage_and_fees : Book → List ℕ
stage_and_fees b = (row b 1).mark ∷ (row b 2).amount ∷ (row b 3).amount ∷ (row b 4).amount ∷ (row b 5).amount ∷ []

-- the answers of a list of events on a book of two accounts, after account 1 is opened on day 5
abbrev answers_on5 : List Instruction → List ℕ
answers_on5 es = numbers (small 5) (open_one ∷ es)

-- a book of three rows with so many payments
abbrev paid : List ℕ → Tables
paid ns = tables_of (book_after (opening 1 schedule rates 2 3) (open_one ∷ map (λ n. event 3 1 n 2 0 0 0) ns))

-- two of them, and one word of the header changed
abbrev header_word : ℕ → ℕ → Tables
header_word k n = let t : Tables = paid (300 ∷ 400 ∷ []) in tables_at (set t.header k (pos n)) t.accounts t.journal []

-- the kinds ks with words a and b, and each of c, d and e
abbrev one_more : List ℕ → ℕ → ℕ → List Bool
one_more ks a b =
    map (λ k. well_formed (event k 0 a b 1 0 0)) ks ++ map (λ k. well_formed (event k 0 a b 0 1 0)) ks ++ map (λ k. well_formed (event k 0 a b 0 0 1)) ks

-- a pending account whose days are over, with so much unused money
abbrev leaving : ℕ → Book
leaving n = record { day = 20; schedule = schedule; lists = (small 1).lists; accounts = an_account 2 5 0 0 0 0 0 ∷ []; rows = a_row 4 n ∷ []; room = 9; holidays = [] }

-- a toll of day 1, disputed at once and decided three days later
abbrev decided : ℕ → Row
decided verdict =
    row (book_after (small 1) (open_one ∷ event 2 1 41 1 2 60 2 ∷ event 5 1 1 0 0 0 0 ∷ ticks 3 ++ event 6 1 1 verdict 0 0 0 ∷ [])) 1

-- the toll of `daily`, at stage 2 with its fee, disputed and upheld
abbrev upheld_with_fee : Book
upheld_with_fee = book_after (daily 2) (event 5 1 1 0 0 0 0 ∷ event 6 1 1 1 0 0 0 ∷ [])

pub cases : List Case
cases =
    -- the book: day, sizes, schedule
    (map day_fits (0 ∷ 1 ∷ 36_525 ∷ 36_526 ∷ []) are 0 ∷ 1 ∷ 1 ∷ 0 ∷ [])
    ∷ (sizes_fit 0 1 ∷ sizes_fit 1 0 ∷ sizes_fit 1 1 ∷ sizes_fit 256 8_192 ∷ sizes_fit 257 8_192 ∷ sizes_fit 256 8_193 ∷ [] are 0 ∷ 0 ∷ 1 ∷ 1 ∷ 0 ∷ 0 ∷ [])
    ∷ (map schedule_fits
    (fees_of 0 0 0 0 ∷ fees_of 1 0 0 0 ∷ fees_of 365 100_000 100_000 100_000 ∷ fees_of 366 0 0 0
    ∷ fees_of 1 100_001 0 0 ∷ fees_of 1 0 100_001 0 ∷ fees_of 1 0 0 100_001 ∷ [])
    are 0 ∷ 1 ∷ 1 ∷ 0 ∷ 0 ∷ 0 ∷ 0 ∷ [])
    ∷ (map rates_fit (but_one 1 1_000_000) are replicate 6 1)
    ∷ (map rates_fit (but_one 1_000_000 1) are replicate 6 1)
    ∷ (map rates_fit (but_one 1 1_000_001) are replicate 6 0)
    ∷ (map rates_fit (but_one 1 0) are replicate 6 0)
    -- used rows in a journal of three: three may be, but each has a kind; four can't be
    ∷ (map sound_tables (header_word 1 2 ∷ header_word 1 1 ∷ header_word 1 3 ∷ header_word 1 4 ∷ []) are 1 ∷ 0 ∷ 0 ∷ 0 ∷ [])
    ∷ (sound_tables (paid (300 ∷ 400 ∷ 5 ∷ [])) ∷ [] are 1 ∷ [])
    -- class and rate
    ∷ (class 1 90 ∷ class 1 91 ∷ class 3 0 ∷ class 3 999 ∷ class 4 999 ∷ class 5 0 ∷ class 99 999 ∷ [] gives 1 ∷ 0 ∷ 2 ∷ 2 ∷ 2 ∷ 3 ∷ 3 ∷ [])
    ∷ (map (λ axles. count (λ c. c.1) (class_cases axles 90)) (1 ∷ 2 ∷ 3 ∷ 4 ∷ 5 ∷ 6 ∷ 99 ∷ []) gives replicate 7 1)
    ∷ (map (λ axles. count (λ c. c.1) (class_cases axles 91)) (1 ∷ 2 ∷ 3 ∷ 4 ∷ 5 ∷ 6 ∷ 99 ∷ []) gives 0 ∷ replicate 6 1)
    ∷ (map (toll_rate (small 1).lists)
    (event 2 1 1 1 2 0 1 ∷ event 2 1 1 1 2 0 2 ∷ event 2 1 1 1 3 0 1 ∷ event 2 1 1 1 3 0 2 ∷ event 2 1 1 1 5 0 1 ∷ event 2 1 1 1 5 0 2 ∷ [])
    gives 250 ∷ 500 ∷ 600 ∷ 900 ∷ 1200 ∷ 1600 ∷ [])
    -- a row's kind, amount, settled part, mark, other words
    ∷ (map (λ k. kind_fits (a_row k 1)) (0 ∷ 1 ∷ 6 ∷ 7 ∷ []) are 0 ∷ 1 ∷ 1 ∷ 0 ∷ [])
    ∷ (map (λ k. amount_fits (a_row k 0)) (1 ∷ 2 ∷ 3 ∷ 4 ∷ 5 ∷ 6 ∷ []) are replicate 6 0)
    ∷ (map (λ k. amount_fits (a_row k 1)) (0 ∷ 1 ∷ 2 ∷ 3 ∷ 4 ∷ 5 ∷ 6 ∷ 7 ∷ []) are 0 ∷ replicate 6 1 ++ 0 ∷ [])
    ∷ (map amount_fits
    (a_row 1 1_000_000 ∷ a_row 2 100_000 ∷ a_row 3 1_000_000 ∷ a_row 4 1_000_000 ∷ a_row 5 1_300_000 ∷ a_row 6 10_649_600_000 ∷ [])
    are replicate 6 1)
    ∷ (map amount_fits
    (a_row 1 1_000_001 ∷ a_row 2 100_001 ∷ a_row 3 1_000_001 ∷ a_row 4 1_000_001 ∷ a_row 5 1_300_001 ∷ a_row 6 10_649_600_001 ∷ [])
    are replicate 6 0)
    ∷ (map settled_fits
    (a_row 1 9 ∷ with_settled 9 (a_row 1 9) ∷ with_settled 10 (a_row 1 9) ∷ with_settled 8 (a_row 6 9) ∷ with_settled 9 (a_row 6 9) ∷ [])
    are 1 ∷ 1 ∷ 0 ∷ 0 ∷ 1 ∷ [])
    ∷ (map (λ m. mark_fits (with_mark m (a_row 1 1))) (0 ∷ 4 ∷ 5 ∷ []) are 1 ∷ 1 ∷ 0 ∷ [])
    ∷ (map (λ m. mark_fits (with_mark m (a_row 4 1))) (0 ∷ 1 ∷ 4 ∷ 5 ∷ []) are 0 ∷ 1 ∷ 1 ∷ 0 ∷ [])
    ∷ (map (λ m. mark_fits (with_mark m (a_row 2 1))) (0 ∷ 1 ∷ []) are 1 ∷ 0 ∷ [])
    ∷ (map (λ n. toll_words_fit (with_reference n (a_row 1 1))) (0 ∷ 1 ∷ 1_000_000_000 ∷ 1_000_000_001 ∷ []) are 0 ∷ 1 ∷ 1 ∷ 0 ∷ [])
    ∷ (map (λ d. toll_words_fit (with_dispute d (with_reference 1 (a_row 1 1)))) (3 ∷ 4 ∷ []) are 1 ∷ 0 ∷ [])
    ∷ (map toll_words_fit (a_row 2 1 ∷ with_due 1 (a_row 2 1) ∷ with_dispute 1 (a_row 2 1) ∷ with_hold_start 1 (a_row 2 1) ∷ []) are 1 ∷ 0 ∷ 0 ∷ 0 ∷ [])
    ∷ (map (λ k. no_reference (with_reference 1 (a_row k 1))) (1 ∷ 2 ∷ 3 ∷ 4 ∷ 5 ∷ 6 ∷ []) are 1 ∷ 1 ∷ 1 ∷ 0 ∷ 1 ∷ 0 ∷ [])
    -- a row and day 40, stages of 30 days: its day, a toll's due day, a hold
    ∷ (map (λ d. row_day_fits 40 (new_row 1 1 d 1)) (0 ∷ 1 ∷ 40 ∷ 41 ∷ []) are 0 ∷ 1 ∷ 1 ∷ 0 ∷ [])
    ∷ (map (λ d. due_fits 40 30 (toll_at 3 d)) (40 ∷ 41 ∷ 70 ∷ 71 ∷ []) are 0 ∷ 1 ∷ 1 ∷ 0 ∷ [])
    ∷ (map (λ d. due_fits 40 30 (toll_at 4 d)) (0 ∷ 1 ∷ 70 ∷ 71 ∷ []) are 0 ∷ 1 ∷ 1 ∷ 0 ∷ [])
    ∷ (map (λ d. due_fits 40 30 (held_at 40 (toll_at 0 d))) (0 ∷ 1 ∷ 70 ∷ 71 ∷ []) are 0 ∷ 1 ∷ 1 ∷ 0 ∷ [])
    ∷ (map (λ d. due_fits 40 30 (with_settled 100 (toll_at 0 d))) (0 ∷ 1 ∷ 70 ∷ 71 ∷ []) are 0 ∷ 1 ∷ 1 ∷ 0 ∷ [])
    ∷ (map (λ h. hold_fits 40 30 (held_at h (toll_at 0 41))) (10 ∷ 11 ∷ 40 ∷ 41 ∷ []) are 0 ∷ 1 ∷ 1 ∷ 0 ∷ [])
    ∷ (map (λ h. hold_fits 20 30 (held_at h (toll_at 0 21))) (0 ∷ 1 ∷ []) are 0 ∷ 1 ∷ [])
    ∷ (map (λ d. hold_fits 40 30 (held_at 35 (toll_at 3 d))) (35 ∷ 36 ∷ 65 ∷ 66 ∷ []) are 0 ∷ 1 ∷ 1 ∷ 0 ∷ [])
    ∷ (map (λ d. hold_fits 40 30 (held_at 35 (toll_at 4 d))) (35 ∷ 65 ∷ 66 ∷ []) are 1 ∷ 1 ∷ 0 ∷ [])
    ∷ (map (λ s. hold_fits 40 30 (held_at 35 (with_settled s (toll_at 0 41)))) (99 ∷ 100 ∷ []) are 1 ∷ 0 ∷ [])
    ∷ (map (λ d. hold_fits 40 30 (with_hold_start 35 (with_dispute d (toll_at 0 41)))) (0 ∷ 1 ∷ 2 ∷ 3 ∷ []) are 0 ∷ 1 ∷ 0 ∷ 0 ∷ [])
    -- a row among the others
    ∷ (map (λ s. account_used (an_account s 1 0 0 0 0 0 ∷ []) (a_row 1 1)) (0 ∷ 1 ∷ 3 ∷ []) are 0 ∷ 1 ∷ 1 ∷ [])
    ∷ (map (λ n. reference_fits (a_row 1 1 ∷ a_row 4 1 ∷ a_row 2 1 ∷ []) 3 (fee_of n)) (0 ∷ 1 ∷ 2 ∷ 3 ∷ []) are 0 ∷ 1 ∷ 1 ∷ 0 ∷ [])
    ∷ (map (λ n. reference_fits (a_row 1 1 ∷ a_row 1 1 ∷ []) n (fee_of 2)) (2 ∷ 3 ∷ []) are 0 ∷ 1 ∷ [])
    ∷ (map (λ n. reference_fits (new_row n 2 1 1 ∷ a_row n 1 ∷ []) 3 (with_reference 1 (a_row 3 1))) (4 ∷ []) are 0 ∷ [])
    ∷ (map (λ n. reference_fits (a_row 1 1 ∷ a_row 4 1 ∷ []) 3 (with_reference n (a_row 3 1))) (1 ∷ 2 ∷ []) are 0 ∷ 1 ∷ [])
    ∷ (map (λ n. reference_fits (a_row 1 1 ∷ a_row 4 1 ∷ []) 3 (with_reference n (a_row 5 1))) (1 ∷ 2 ∷ []) are 1 ∷ 0 ∷ [])
    ∷ (map (λ n. passage_once (with_reference 7 (a_row 1 1) ∷ with_reference n (a_row 1 1) ∷ []) (with_reference 7 (a_row 1 1))) (7 ∷ 8 ∷ []) are 0 ∷ 1 ∷ [])
    ∷ (map (λ k. fees_fit (fee_of 1 ∷ []) 1 (toll_at k 1)) (0 ∷ 1 ∷ 2 ∷ []) are 0 ∷ 0 ∷ 1 ∷ [])
    ∷ (map (λ k. fees_fit (fee_of 1 ∷ fee_of 1 ∷ fee_of 1 ∷ fee_of 2 ∷ []) 1 (toll_at k 1)) (3 ∷ 4 ∷ []) are 0 ∷ 1 ∷ [])
    -- an account on day 40
    ∷ (map (λ s. state_fits (an_account s 0 0 0 0 0 0)) (0 ∷ 3 ∷ 4 ∷ []) are 1 ∷ 1 ∷ 0 ∷ [])
    ∷ (map unused_zero
    (an_account 0 0 0 0 0 0 0 ∷ an_account 0 1 0 0 0 0 0 ∷ an_account 0 0 1 0 0 0 0 ∷ an_account 0 0 0 1 0 0 0
    ∷ an_account 0 0 0 0 1 0 0 ∷ an_account 0 0 0 0 0 1 0 ∷ an_account 0 0 0 0 0 0 1 ∷ with_reserve 1 unused ∷ [])
    are 1 ∷ replicate 7 0)
    ∷ (map (λ q. request_fits 40 (an_account 1 q 0 0 0 0 0)) (0 ∷ 1 ∷ []) are 1 ∷ 0 ∷ [])
    ∷ (map (λ q. request_fits 40 (an_account 2 q 0 0 0 0 0)) (0 ∷ 1 ∷ 40 ∷ 41 ∷ []) are 0 ∷ 1 ∷ 1 ∷ 0 ∷ [])
    ∷ (map (λ q. request_fits 40 (an_account 3 q 0 0 0 0 0)) (0 ∷ 1 ∷ 40 ∷ 41 ∷ []) are 0 ∷ 1 ∷ 1 ∷ 0 ∷ [])
    ∷ (map topup_fits
    (topped_up 1_000_000 1_000_000 2 1 ∷ topped_up 1_000_001 1 0 0 ∷ topped_up 0 1_000_001 0 0 ∷ topped_up 0 1 3 1
    ∷ topped_up 0 1 0 1 ∷ topped_up 0 1 1 0 ∷ topped_up 1 0 0 0 ∷ topped_up 0 0 1 1 ∷ topped_up 0 0 0 0 ∷ [])
    are 1 ∷ 0 ∷ 0 ∷ 0 ∷ 0 ∷ 0 ∷ 0 ∷ 0 ∷ 1 ∷ [])
    ∷ (map (λ r. topup_fits (with_reserve r (topped_up 0 1 0 0))) (0 ∷ 1 ∷ 2 ∷ []) are 1 ∷ 1 ∷ 0 ∷ [])
    ∷ (map (λ r. topup_fits (with_reserve r (topped_up 0 0 0 0))) (0 ∷ 1 ∷ []) are 1 ∷ 0 ∷ [])
    ∷ (map (λ d. decline_fits 40 (topped_up 0 1 1 d)) (40 ∷ 41 ∷ []) are 1 ∷ 0 ∷ [])
    -- an account and its rows
    ∷ (map (λ m. returned_fits (with_mark m (a_row 4 1) ∷ []) 1 (an_account 1 0 1 0 0 0 0)) (3 ∷ 4 ∷ []) are 0 ∷ 1 ∷ [])
    ∷ (map (λ n. returned_fits (with_mark 4 (a_row 4 1) ∷ []) n (an_account 1 0 0 0 0 0 0)) (1 ∷ 2 ∷ []) are 0 ∷ 1 ∷ [])
    ∷ (map (λ s. used_is_paid (with_settled s (a_row 4 9) ∷ with_settled 8 (a_row 1 9) ∷ []) 1) (7 ∷ 8 ∷ 9 ∷ []) are 0 ∷ 1 ∷ 0 ∷ [])
    ∷ (map (λ s. no_idle_money (with_settled s (a_row 4 9) ∷ a_row 1 9 ∷ []) 1) (8 ∷ 9 ∷ []) are 0 ∷ 1 ∷ [])
    ∷ (map (λ s. no_idle_money (with_settled 8 (a_row 4 9) ∷ with_settled s (a_row 1 9) ∷ []) 1) (8 ∷ 9 ∷ []) are 0 ∷ 1 ∷ [])
    ∷ (map (λ s. closed_clear (with_settled s (a_row 4 9) ∷ []) 1 (an_account 3 1 0 0 0 0 0)) (8 ∷ 9 ∷ []) are 0 ∷ 1 ∷ [])
    ∷ (map (λ s. closed_clear (held_at 1 (with_settled s (a_row 1 9)) ∷ []) 1 (an_account 3 1 0 0 0 0 0)) (8 ∷ 9 ∷ []) are 0 ∷ 1 ∷ [])
    -- the forms, each word at its borders; then every word that is not named
    ∷ (map (λ k. well_formed (event k 0 0 0 0 0 0)) (0 ∷ 1 ∷ 9 ∷ 10 ∷ 11 ∷ 12 ∷ 13 ∷ []) are 0 ∷ 1 ∷ 1 ∷ 0 ∷ 1 ∷ 1 ∷ 0 ∷ [])
    ∷ (map (λ n. well_formed (event 1 1 n 1 0 0 0)) (0 ∷ 1_000_000 ∷ 1_000_001 ∷ []) are 1 ∷ 1 ∷ 0 ∷ [])
    ∷ (map (λ n. well_formed (event 1 1 1 n 0 0 0)) (0 ∷ 1 ∷ 1_000_000 ∷ 1_000_001 ∷ []) are 0 ∷ 1 ∷ 1 ∷ 0 ∷ [])
    ∷ (map (λ n. well_formed (event 2 1 n 1 1 0 1)) (0 ∷ 1 ∷ 1_000_000_000 ∷ 1_000_000_001 ∷ []) are 0 ∷ 1 ∷ 1 ∷ 0 ∷ [])
    ∷ (map (λ n. well_formed (event 2 1 1 n 1 0 1)) (0 ∷ 1 ∷ 36_525 ∷ 36_526 ∷ []) are 0 ∷ 1 ∷ 1 ∷ 0 ∷ [])
    ∷ (map (λ n. well_formed (event 2 1 1 1 n 0 1)) (0 ∷ 1 ∷ 99 ∷ 100 ∷ []) are 0 ∷ 1 ∷ 1 ∷ 0 ∷ [])
    ∷ (map (λ n. well_formed (event 2 1 1 1 1 n 1)) (0 ∷ 999 ∷ 1_000 ∷ []) are 1 ∷ 1 ∷ 0 ∷ [])
    ∷ (map (λ n. well_formed (event 2 1 1 1 1 0 n)) (0 ∷ 1 ∷ 2 ∷ 3 ∷ []) are 0 ∷ 1 ∷ 1 ∷ 0 ∷ [])
    ∷ (map (λ n. well_formed (event 3 1 n 1 0 0 0)) (0 ∷ 1 ∷ 1_000_000 ∷ 1_000_001 ∷ []) are 0 ∷ 1 ∷ 1 ∷ 0 ∷ [])
    ∷ (map (λ n. well_formed (event 3 1 1 n 0 0 0)) (0 ∷ 1 ∷ 3 ∷ 4 ∷ []) are 0 ∷ 1 ∷ 1 ∷ 0 ∷ [])
    ∷ (map (λ n. well_formed (event 4 1 1 n 0 0 0)) (0 ∷ 99_500 ∷ 99_501 ∷ []) are 1 ∷ 1 ∷ 0 ∷ [])
    ∷ (map (λ n. well_formed (event 6 1 1 n 0 0 0)) (0 ∷ 1 ∷ 2 ∷ []) are 1 ∷ 1 ∷ 0 ∷ [])
    ∷ (map (λ n. well_formed (event 7 1 0 n 0 0 0)) (0 ∷ 1 ∷ 2 ∷ []) are 1 ∷ 1 ∷ 0 ∷ [])
    ∷ (map (λ n. well_formed (event 11 1 n 0 0 0 0)) (0 ∷ 1 ∷ 2 ∷ []) are 1 ∷ 1 ∷ 0 ∷ [])
    ∷ (map well_formed (event 7 1 1 0 0 0 0 ∷ event 8 1 1 0 0 0 0 ∷ event 9 0 1 0 0 0 0 ∷ event 9 1 0 0 0 0 0 ∷ []) are replicate 4 0)
    ∷ (map well_formed (event 5 1 1 1 0 0 0 ∷ event 8 1 0 1 0 0 0 ∷ event 9 0 0 1 0 0 0 ∷ event 11 1 1 1 0 0 0 ∷ event 12 1 1 1 0 0 0 ∷ []) are replicate 5 0)
    -- one word of c, d and e more than the kind names, its other words good
    ∷ (one_more (1 ∷ 3 ∷ 4 ∷ 6 ∷ []) 1 1 are replicate 12 0)
    ∷ (one_more (5 ∷ 11 ∷ 12 ∷ []) 1 0 are replicate 9 0)
    ∷ (one_more (7 ∷ 8 ∷ 9 ∷ []) 0 0 are replicate 9 0)
    ∷ (map (λ k. well_formed (event k 0 1 1 0 0 0)) (1 ∷ 3 ∷ 4 ∷ 6 ∷ []) are replicate 4 1)
    ∷ (map (λ k. well_formed (event k 0 1 0 0 0 0)) (5 ∷ 11 ∷ 12 ∷ []) are replicate 3 1)
    ∷ (map (λ k. well_formed (event k 0 0 0 0 0 0)) (7 ∷ 8 ∷ 9 ∷ []) are replicate 3 1)
    -- 3 and 4: unused, outside the table, used
    ∷ (answers_on5 (event 1 1 0 0 0 0 0 ∷ event 3 2 1 1 0 0 0 ∷ event 3 0 1 1 0 0 0 ∷ event 1 3 0 0 0 0 0 ∷ event 1 0 0 0 0 0 0 ∷ event 1 2 0 0 0 0 0 ∷ [])
    gives 0 ∷ 4 ∷ 3 ∷ 3 ∷ 3 ∷ 3 ∷ 0 ∷ [])
    -- 5: events 2, 3, 7, 8 on state 3; a check that is returned then makes the account pending
    ∷ (numbers (small 1)
    (closed_one ++ event 2 1 41 16 2 60 2 ∷ event 3 1 1 1 0 0 0 ∷ event 7 1 0 1 0 0 0 ∷ event 8 1 0 0 0 0 0
    ∷ event 5 1 1 0 0 0 0 ∷ event 6 1 1 0 0 0 0 ∷ event 4 1 1 7 0 0 0 ∷ event 8 1 0 0 0 0 0 ∷ [])
    gives replicate 19 0 ++ 5 ∷ 5 ∷ 5 ∷ 5 ∷ 10 ∷ 10 ∷ 0 ∷ 11 ∷ [])
    ∷ ((account (book_after (small 1) (closed_one ++ event 4 1 1 7 0 0 0 ∷ [])) 1).state
    ∷ (account (book_after (small 1) (closed_one ++ event 4 1 1 7 0 0 0 ∷ [])) 1).request
    ∷ (row (book_after (small 1) (closed_one ++ event 4 1 1 7 0 0 0 ∷ [])) 4).amount ∷ [] gives 2 ∷ 1 ∷ 507 ∷ [])
    -- 7 and 8: a passage of today, of tomorrow; the same number again, which comes after 6 and 7
    ∷ (answers_on5 (event 2 1 41 5 2 60 2 ∷ event 2 1 42 6 2 60 2 ∷ event 2 1 41 5 2 60 2 ∷ event 2 1 41 6 2 60 2 ∷ event 2 1 41 6 1 91 2 ∷ [])
    gives 0 ∷ 0 ∷ 7 ∷ 8 ∷ 7 ∷ 6 ∷ [])
    -- 8 is for tolls: a reversal and a fee that name row 1 are not passage 1
    ∷ (answers_on5 (event 3 1 9 3 0 0 0 ∷ event 4 1 1 0 0 0 0 ∷ event 2 1 1 5 2 60 2 ∷ []) gives 0 ∷ 0 ∷ 0 ∷ 0 ∷ [])
    -- 10 and 11: no such row, another kind, another account; a toll held, ended, never held, settled whole
    ∷ (answers_on5
    (event 1 2 0 0 0 0 0 ∷ event 2 1 41 5 2 60 2 ∷ event 5 1 0 0 0 0 0 ∷ event 5 1 2 0 0 0 0 ∷ event 4 1 1 0 0 0 0 ∷ event 5 2 1 0 0 0 0
    ∷ event 6 1 1 0 0 0 0 ∷ event 5 1 1 0 0 0 0 ∷ event 5 1 1 0 0 0 0 ∷ event 6 1 1 0 0 0 0 ∷ event 5 1 1 0 0 0 0
    ∷ event 3 2 500 2 0 0 0 ∷ event 2 2 42 5 2 60 2 ∷ event 5 2 3 0 0 0 0 ∷ event 4 2 2 0 0 0 0 ∷ event 6 2 2 0 0 0 0 ∷ [])
    gives 0 ∷ 0 ∷ 0 ∷ 10 ∷ 10 ∷ 10 ∷ 10 ∷ 11 ∷ 0 ∷ 11 ∷ 0 ∷ 11 ∷ 0 ∷ 0 ∷ 11 ∷ 11 ∷ 10 ∷ [])
    -- 11: a top-up of 0, but not of 1; of a pending account; a second request
    ∷ (numbers (small 1) (open_one ∷ event 7 1 0 1 0 0 0 ∷ event 1 2 5 1 0 0 0 ∷ event 7 2 0 1 0 0 0 ∷ event 8 2 0 0 0 0 0
    ∷ event 7 2 0 1 0 0 0 ∷ event 8 2 0 0 0 0 0 ∷ [])
    gives 0 ∷ 11 ∷ 0 ∷ 0 ∷ 0 ∷ 11 ∷ 11 ∷ [])
    -- 12: the last day
    ∷ (numbers (small 36_524) (ticks 2) gives 0 ∷ 12 ∷ [])
    -- 13: one free row for a payment, none; two rows for a returned check
    ∷ (numbers (opening 1 schedule rates 1 2) (open_one ∷ event 3 1 1 3 0 0 0 ∷ event 4 1 1 0 0 0 0 ∷ event 3 1 1 1 0 0 0 ∷ event 3 1 1 1 0 0 0 ∷ [])
    gives 0 ∷ 0 ∷ 13 ∷ 0 ∷ 13 ∷ [])
    -- 14: a refund above the highest
    ∷ (answer_number (leaving 10_649_600_000) (event 9 0 0 0 0 0 0) ∷ answer_number (leaving 10_649_600_001) (event 9 0 0 0 0 0 0) ∷ [] gives 0 ∷ 14 ∷ [])
    -- a decision: due moves by the days held; dispute, hold start; the credit is the toll and its fee, which it covers
    ∷ ((decided 0).due ∷ (decided 0).dispute ∷ (decided 0).hold ∷ (decided 1).due ∷ (decided 1).dispute ∷ (decided 1).hold ∷ []
    gives 34 ∷ 2 ∷ 0 ∷ 31 ∷ 3 ∷ 0 ∷ [])
    ∷ (map (λ r. r.settled) upheld_with_fee.rows ++ (row upheld_with_fee 3).amount ∷ [] gives 500 ∷ 20 ∷ 520 ∷ 520 ∷ [])
    -- closing: no refund of nothing; a held toll keeps the account pending
    ∷ (length (book_after (small 1) (open_one ∷ event 8 1 0 0 0 0 0 ∷ ticks 16)).rows
    ∷ (account (book_after (small 1) (open_one ∷ event 2 1 41 1 2 60 2 ∷ event 5 1 1 0 0 0 0 ∷ event 8 1 0 0 0 0 0 ∷ ticks 16)) 1).state ∷ []
    gives 0 ∷ 2 ∷ [])
    -- stages of one day: each fee with its stage, none before stage 2 and none after stage 4
    ∷ (stage_and_fees (daily 1) ++ stage_and_fees (daily 2) ++ stage_and_fees (daily 3) ++ stage_and_fees (daily 5) gives
    1 ∷ 0 ∷ 0 ∷ 0 ∷ 0 ∷ 2 ∷ 20 ∷ 0 ∷ 0 ∷ 0 ∷ 3 ∷ 20 ∷ 30 ∷ 0 ∷ 0 ∷ 4 ∷ 20 ∷ 30 ∷ 40 ∷ 0 ∷ [])
    -- no row for a fee of 0
    ∷ (length (book_after (opening 1 (fees_of 1 0 0 0) rates 1 8) (open_one ∷ event 2 1 41 1 2 60 2 ∷ ticks 4)).rows ∷ [] gives 1 ∷ [])
    ∷ []

-- every case computes to what document 01 says
pub borders : map (λ c. c.got) cases ≡ map (λ c. c.want) cases
unfolding computing cases
borders = refl
