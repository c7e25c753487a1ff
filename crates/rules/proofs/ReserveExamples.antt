-- A reserve at its limits (document 02, No. 4), computed from the definitions: event 11, answer 16, and whom a top-up's result concerns.
use mathlib.Core.Path.{◌≡◌, refl}
use Prim.Native.Nat.{ℕ}
use mathlib.Core.List.{List, [], ◌∷◌, ◌++◌, map}
use lib.ListN.{replicate}
use Rattle.records.specs.Encoding.{account_fields}
use Rattle.records.specs.Updates.{with_reserve}
use Rattle.rules.specs.Book.{Instruction, Book, account, put_account}
use Rattle.rules.specs.Soundness.{sound}
use Rattle.rules.specs.Posting.{book_after, answers_to}
use Rattle.rules.proofs.Computing.{computing}
use Rattle.rules.proofs.Examples.{Case, ◌gives◌, event, ticks, small, numbers}
use Rattle.rules.proofs.Borders.{◌are◌}

-- ---- how cases are written

-- account 1 opened: a top-up of 2,000 at 100 or less
abbrev opened : Instruction
opened = event 1 1 100 2_000 0 0 0

-- event 11: 1 adds a reserve, 0 removes it
abbrev reserve : ℕ → Instruction
reserve n = event 11 1 n 0 0 0 0

-- a result: 1 paid, 0 declined
abbrev result : ℕ → Instruction
result b = event 7 1 0 b 0 0 0

-- declined on the next day, and on two
abbrev once : List Instruction
once = ticks 1 ++ result 0 ∷ []

abbrev twice : List Instruction
twice = once ++ once

-- the day after some declines, with a reserve that was added before them
abbrev reserved_then : List Instruction → Book
reserved_then es = book_after (small 1) (opened ∷ reserve 1 ∷ es ++ ticks 1)

-- the words of account 1: threshold, amount, declines, last decline, reserve
abbrev topup_words : Book → List ℕ
topup_words b = (account b 1).threshold ∷ (account b 1).topup ∷ (account b 1).declines ∷ (account b 1).declined ∷ (account b 1).reserve ∷ []

-- what a result leaves of them, and the answer's number and last word
abbrev left_by : Book → ℕ → List ℕ
left_by b paid = topup_words (book_after b (result paid ∷ [])) ++ map (λ a. a.number) (answers_to b (result paid ∷ [])) ++ map (λ a. a.removed) (answers_to b (result paid ∷ []))

-- account 1 without a top-up; closed; pending; pending again, of a returned check
abbrev plain : Book
plain = book_after (small 1) (event 1 1 0 0 0 0 0 ∷ [])

abbrev pending : List Instruction
pending = opened ∷ event 3 1 700 3 0 0 0 ∷ event 8 1 0 0 0 0 0 ∷ []

abbrev closed : Book
closed = book_after (small 1) (pending ++ ticks 16)

pub cases : List Case
cases =
    -- 3, 5, 11 for adding and removing, 16 for one that exists and for one that doesn't; 2 before each; a pending account may
    (numbers (small 1) (reserve 2 ∷ reserve 1 ∷ opened ∷ reserve 2 ∷ reserve 0 ∷ reserve 1 ∷ reserve 1 ∷ reserve 0 ∷ reserve 0 ∷ [])
    gives 2 ∷ 3 ∷ 0 ∷ 2 ∷ 16 ∷ 0 ∷ 16 ∷ 0 ∷ 16 ∷ [])
    ∷ (numbers plain (reserve 0 ∷ reserve 1 ∷ reserve 2 ∷ []) gives 11 ∷ 11 ∷ 2 ∷ [])
    ∷ (numbers closed (reserve 2 ∷ reserve 0 ∷ reserve 1 ∷ event 4 1 1 0 0 0 0 ∷ reserve 1 ∷ []) gives 2 ∷ 5 ∷ 5 ∷ 0 ∷ 0 ∷ [])
    -- 5 before 11: a closed account without a primary
    ∷ (numbers plain (event 8 1 0 0 0 0 0 ∷ ticks 16 ++ reserve 1 ∷ []) gives replicate 17 0 ++ 5 ∷ [])
    ∷ (numbers (small 1) (pending ++ reserve 1 ∷ reserve 0 ∷ []) gives 0 ∷ 0 ∷ 0 ∷ 0 ∷ 0 ∷ [])
    -- event 11 changes the reserve alone
    ∷ (account_fields (account (book_after (small 1) (opened ∷ once ++ reserve 1 ∷ [])) 1) gives 1 ∷ 0 ∷ 0 ∷ 100 ∷ 2_000 ∷ 1 ∷ 2 ∷ 1 ∷ 0 ∷ [])
    -- paid after no, one or two declines: the reserve stays, stays, takes the primary's place
    ∷ (left_by (reserved_then []) 1 gives 100 ∷ 2_000 ∷ 0 ∷ 0 ∷ 1 ∷ 0 ∷ 0 ∷ [])
    ∷ (left_by (reserved_then once) 1 gives 100 ∷ 2_000 ∷ 0 ∷ 0 ∷ 1 ∷ 0 ∷ 0 ∷ [])
    ∷ (left_by (reserved_then twice) 1 gives 100 ∷ 2_000 ∷ 0 ∷ 0 ∷ 0 ∷ 0 ∷ 0 ∷ [])
    -- declined after no, one or two: counted, counted, both methods removed
    ∷ (left_by (reserved_then []) 0 gives 100 ∷ 2_000 ∷ 1 ∷ 2 ∷ 1 ∷ 0 ∷ 0 ∷ [])
    ∷ (left_by (reserved_then once) 0 gives 100 ∷ 2_000 ∷ 2 ∷ 3 ∷ 1 ∷ 0 ∷ 0 ∷ [])
    ∷ (left_by (reserved_then twice) 0 gives 0 ∷ 0 ∷ 0 ∷ 0 ∷ 0 ∷ 0 ∷ 1 ∷ [])
    -- a reserve added after the second decline is asked next
    ∷ (left_by (book_after (small 1) (opened ∷ twice ++ reserve 1 ∷ ticks 1)) 1 gives 100 ∷ 2_000 ∷ 0 ∷ 0 ∷ 0 ∷ 0 ∷ 0 ∷ [])
    -- a paid top-up between: the count begins again
    ∷ (left_by (reserved_then (once ++ ticks 1 ++ result 1 ∷ event 2 1 41 2 5 60 2 ∷ event 2 1 42 2 5 60 2 ∷ once)) 0
    gives 100 ∷ 2_000 ∷ 2 ∷ 5 ∷ 1 ∷ 0 ∷ 0 ∷ [])
    -- a closed account keeps its words
    ∷ (topup_words (book_after (small 1) (opened ∷ reserve 1 ∷ event 8 1 0 0 0 0 0 ∷ ticks 16)) gives 100 ∷ 2_000 ∷ 0 ∷ 0 ∷ 1 ∷ [])
    -- sound: 0 or 1, and 0 without a primary
    ∷ (map (λ n. sound (put_account 1 (with_reserve n (account closed 1)) closed)) (0 ∷ 1 ∷ 2 ∷ []) are 1 ∷ 1 ∷ 0 ∷ [])
    ∷ (map (λ n. sound (put_account 1 (with_reserve n (account plain 1)) plain)) (0 ∷ 1 ∷ []) are 1 ∷ 0 ∷ [])
    ∷ []

pub reserve-examples : map (λ c. c.got) cases ≡ map (λ c. c.want) cases
unfolding computing cases
reserve-examples = refl
