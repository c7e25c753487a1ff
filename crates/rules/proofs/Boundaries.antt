-- Cases at the limits of document 01's rules and its known misreadings, computed from the definitions: what a reader might get wrong.
use mathlib.Core.Path.{◌≡◌, refl}
use Prim.Native.Nat.{ℕ}
use mathlib.Core.List.{List, [], ◌∷◌, ◌++◌, map}
use lib.IntN.{negsuc}
use Rattle.rules.specs.Book.{Instruction, Book, account, row, balance}
use Rattle.rules.specs.Posting.{book_after, answers_to}
use Rattle.rules.proofs.Computing.{computing}
use Rattle.rules.proofs.Examples.{Case, ◌gives◌, ◌amounts-to◌, event, ticks, small, numbers}

-- ---- how cases are written

-- account 1 opened without a top-up
abbrev open_one : Instruction
open_one = event 1 1 0 0 0 0 0

-- a toll of 500 on account 1: two axles, 60 inches, plate, passed on day 1
abbrev toll_of : ℕ → Instruction
toll_of passage = event 2 1 passage 1 2 60 2

abbrev pay : ℕ → ℕ → Instruction
pay amount method = event 3 1 amount method 0 0 0

abbrev bouncing : ℕ → Instruction
bouncing r = event 4 1 r 0 0 0 0

abbrev dispute : ℕ → Instruction
dispute r = event 5 1 r 0 0 0 0

abbrev settled_parts : Book → List ℕ
settled_parts b = map (λ r. r.settled) b.rows

abbrev from : ℕ → List Instruction → Book
from day es = book_after (small day) es

-- ---- known misreadings

-- "an upheld credit paying the oldest debt first": tolls 1 and 2; toll 2 is disputed and upheld, and its credit covers it alone
abbrev upheld_second : Book
upheld_second = from 1 (open_one ∷ toll_of 41 ∷ toll_of 42 ∷ dispute 2 ∷ event 6 1 2 1 0 0 0 ∷ [])

-- "the tick that ends a hold counted as open": held from day 10 on, freed by the tick to day 40, 9 days open before
abbrev held_from_ten : ℕ → Book
held_from_ten n = from 1 (open_one ∷ toll_of 41 ∷ ticks 9 ++ dispute 1 ∷ ticks n)

-- "a held toll's fee paid": a toll at stage 2 with its fee, disputed, and then a payment that would cover both
abbrev held_with_fee : Book
held_with_fee = from 1 (open_one ∷ toll_of 41 ∷ ticks 60 ++ dispute 1 ∷ pay 1000 1 ∷ [])

-- ---- limits

-- three checks, each returned; then a check, and cash
abbrev three_returns : List Instruction
three_returns =
    open_one ∷ pay 100 3 ∷ bouncing 1 ∷ pay 100 3 ∷ bouncing 4 ∷ pay 100 3 ∷ bouncing 7 ∷ pay 100 3 ∷ pay 100 2 ∷ bouncing 1 ∷ []

-- a top-up of 2,000 at 100 or less
abbrev open_topup : Instruction
open_topup = event 1 1 100 2000 0 0 0

abbrev result : ℕ → Instruction
result paid = event 7 1 0 paid 0 0 0

-- declined on three days
abbrev three_declines : List Instruction
three_declines = open_topup ∷ result 0 ∷ result 0 ∷ ticks 1 ++ result 0 ∷ ticks 1 ++ result 0 ∷ []

abbrev closing : List Instruction → Book
closing es = from 1 (open_one ∷ pay 700 1 ∷ es ++ event 8 1 0 0 0 0 0 ∷ ticks 16)

pub cases : List Case
cases =
    (settled_parts upheld_second gives 0 ∷ 500 ∷ 500 ∷ [])
    ∷ ((row (held_from_ten 50) 1).mark ∷ (held_from_ten 50).day ∷ [] gives 0 ∷ 60 ∷ [])
    ∷ ((row (held_from_ten 51) 1).mark ∷ (held_from_ten 51).day ∷ [] gives 1 ∷ 61 ∷ [])
    ∷ (settled_parts held_with_fee gives 0 ∷ 0 ∷ 0 ∷ [])
    -- 9 for a check, not for cash; a check returned twice is untimely
    ∷ (numbers (small 1) three_returns gives 0 ∷ 0 ∷ 0 ∷ 0 ∷ 0 ∷ 0 ∷ 0 ∷ 9 ∷ 0 ∷ 11 ∷ [])
    -- a returned check owes the amount and 500 more: 300 paid, 300 reversed, 1,500 in fees, 100 in cash
    ∷ (balance (from 1 three_returns) 1 amounts-to negsuc 1399)
    -- due at the threshold, not above it
    ∷ (numbers (small 1) (open_topup ∷ pay 101 2 ∷ result 1 ∷ []) gives 0 ∷ 0 ∷ 11 ∷ [])
    ∷ (numbers (small 1) (open_topup ∷ pay 100 2 ∷ result 1 ∷ result 1 ∷ []) gives 0 ∷ 0 ∷ 0 ∷ 11 ∷ [])
    -- one result a day after a decline; the third removes the top-up
    ∷ (numbers (small 1) three_declines gives 0 ∷ 0 ∷ 11 ∷ 0 ∷ 0 ∷ 0 ∷ 0 ∷ [])
    ∷ (map (λ a. a.removed) (answers_to (small 1) three_declines) gives 0 ∷ 0 ∷ 0 ∷ 0 ∷ 0 ∷ 0 ∷ 1 ∷ [])
    ∷ ((account (from 1 three_declines) 1).topup ∷ (account (from 1 three_declines) 1).threshold ∷ [] gives 0 ∷ 0 ∷ [])
    -- closing refunds the unused money; a debt left open keeps the account pending
    ∷ (settled_parts (closing []) ++ (account (closing []) 1).state ∷ [] gives 700 ∷ 700 ∷ 3 ∷ [])
    ∷ (settled_parts (closing (toll_of 41 ∷ toll_of 42 ∷ [])) ++ (account (closing (toll_of 41 ∷ toll_of 42 ∷ [])) 1).state ∷ [] gives 700 ∷ 500 ∷ 200 ∷ 2 ∷ [])
    -- a tick raises two tolls and says so
    ∷ (map (λ a. a.raised) (answers_to (small 1) (open_one ∷ toll_of 41 ∷ toll_of 42 ∷ ticks 30)) gives
    0 ∷ 0 ∷ 0 ∷ map (λ a. 0) (ticks 29) ++ 2 ∷ [])
    ∷ []

pub boundaries : map (λ c. c.got) cases ≡ map (λ c. c.want) cases
unfolding computing cases
boundaries = refl
