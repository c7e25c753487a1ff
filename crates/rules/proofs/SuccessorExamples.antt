-- Successors at their limits (document 02, No. 8), computed from the definitions: event 12, answer 18, and on whom a toll posts.
use mathlib.Core.Path.{◌≡◌, refl}
use Prim.Native.Nat.{ℕ}
use mathlib.Core.List.{List, [], ◌∷◌, ◌++◌, map}
use lib.ListN.{drop}
use Rattle.records.specs.Updates.{with_successor}
use Rattle.rules.specs.Book.{Instruction, Book, account, put_account}
use Rattle.rules.specs.Soundness.{sound}
use Rattle.rules.specs.Opening.{opening}
use Rattle.rules.specs.Posting.{book_after}
use Rattle.rules.proofs.Computing.{computing}
use Rattle.rules.proofs.Examples.{Case, ◌gives◌, event, ticks, schedule, rates, numbers}
use Rattle.rules.proofs.Borders.{◌are◌}

-- ---- how cases are written

-- four accounts, the fourth unused; account 1 has had a check, and is closed on day 17, a Monday
abbrev start : Book
start = opening 1 schedule rates 4 16

abbrev opened : List Instruction
opened = event 1 1 0 0 0 0 0 ∷ event 1 2 0 0 0 0 0 ∷ event 1 3 0 0 0 0 0 ∷ []

abbrev until_closed : List Instruction
until_closed = opened ++ event 3 1 700 3 0 0 0 ∷ event 8 1 0 0 0 0 0 ∷ ticks 16

abbrev closed : Book
closed = book_after start until_closed

-- event 12: account n is given the successor s
abbrev name : ℕ → ℕ → Instruction
name n s = event 12 n s 0 0 0 0

-- a toll of 500 that account n is sent: passage, two axles, 60 inches, plate, passed on day 17
abbrev toll : ℕ → ℕ → Instruction
toll n passage = event 2 n passage 17 2 60 2

-- account 2 is pending; accounts 1 and 2 are closed, 2 on day 32; account 1 is pending again of the returned check
abbrev pending : ℕ → Instruction
pending n = event 8 n 0 0 0 0 0

abbrev returned : Instruction
returned = event 4 1 1 0 0 0 0

abbrev both_closed : Book
both_closed = book_after closed (pending 2 ∷ ticks 15)

-- the accounts of the rows after the first two, which are the check's and the refund's
abbrev holders : Book → List ℕ
holders b = map (λ r. r.account) (drop 2 b.rows)

abbrev successors : Book → List ℕ
successors b = map (λ x. x.successor) b.accounts

pub cases : List Case
cases =
    -- 2 for a word past a; 3; 18 of an account that is not closed; 18 for itself, 0, an unused one, one outside the table
    (numbers closed (event 12 1 2 1 0 0 0 ∷ name 4 2 ∷ name 5 2 ∷ name 0 2 ∷ name 2 3 ∷ []) gives 2 ∷ 3 ∷ 3 ∷ 3 ∷ 18 ∷ [])
    ∷ (numbers closed (pending 2 ∷ name 2 3 ∷ name 1 1 ∷ name 1 0 ∷ name 1 4 ∷ name 1 5 ∷ name 1 2 ∷ []) gives 0 ∷ 18 ∷ 18 ∷ 18 ∷ 18 ∷ 18 ∷ 0 ∷ [])
    -- event 12 changes the successor alone; a second one replaces it; 0 does not clear it
    ∷ (successors (book_after closed (name 1 2 ∷ name 1 3 ∷ name 1 0 ∷ [])) gives 3 ∷ 0 ∷ 0 ∷ 0 ∷ [])
    -- a toll of the closed account: 5 without a successor; the row is the open one's, the pending one's
    ∷ (numbers closed (toll 1 41 ∷ name 1 2 ∷ toll 1 41 ∷ []) gives 5 ∷ 0 ∷ 0 ∷ [])
    ∷ (holders (book_after closed (name 1 2 ∷ toll 1 41 ∷ pending 3 ∷ name 1 3 ∷ toll 1 42 ∷ [])) gives 2 ∷ 3 ∷ [])
    -- and it is the successor's money that settles it
    ∷ (map (λ r. r.settled) (drop 2 (book_after closed (name 1 2 ∷ event 3 2 300 2 0 0 0 ∷ toll 1 41 ∷ [])).rows) gives 300 ∷ 300 ∷ [])
    -- 5 before 6, 7 and 8, which are the successor's toll's
    ∷ (numbers closed (toll 2 41 ∷ event 2 1 42 17 1 91 2 ∷ event 2 1 42 18 2 60 2 ∷ toll 1 41 ∷ []) gives 0 ∷ 5 ∷ 5 ∷ 5 ∷ [])
    ∷ (numbers closed (name 1 2 ∷ toll 2 41 ∷ event 2 1 42 17 1 91 2 ∷ event 2 1 42 18 2 60 2 ∷ toll 1 41 ∷ []) gives 0 ∷ 0 ∷ 6 ∷ 7 ∷ 8 ∷ [])
    -- payments, results and requests are not passed on
    ∷ (numbers closed (name 1 2 ∷ event 3 1 100 2 0 0 0 ∷ event 7 1 0 1 0 0 0 ∷ pending 1 ∷ []) gives 0 ∷ 5 ∷ 5 ∷ 5 ∷ [])
    -- a closed successor may be named, and passes nothing on: 1 to 2 to 3, then 2 to 1
    ∷ (numbers both_closed (name 1 2 ∷ name 2 3 ∷ toll 1 41 ∷ toll 2 41 ∷ name 2 1 ∷ toll 2 42 ∷ []) gives 0 ∷ 0 ∷ 5 ∷ 0 ∷ 0 ∷ 5 ∷ [])
    -- once the returned check has reopened account 1, it is the heir of 2, takes its own tolls and keeps its successor
    ∷ (holders (book_after both_closed (name 1 3 ∷ name 2 1 ∷ returned ∷ toll 2 41 ∷ toll 1 42 ∷ [])) gives 1 ∷ 1 ∷ 1 ∷ 1 ∷ [])
    ∷ (successors (book_after closed (name 1 2 ∷ returned ∷ [])) gives 2 ∷ 0 ∷ 0 ∷ 0 ∷ [])
    -- closed again, it passes them on again
    ∷ (holders (book_after closed (name 1 2 ∷ returned ∷ event 3 1 1_200 2 0 0 0 ∷ ticks 1 ++ toll 1 41 ∷ [])) gives 1 ∷ 1 ∷ 1 ∷ 2 ∷ [])
    -- sound: 0 or another used account's number, whatever the states
    ∷ (map (λ s. sound (put_account 1 (with_successor s (account closed 1)) closed)) (0 ∷ 1 ∷ 2 ∷ 3 ∷ 4 ∷ 5 ∷ []) are 1 ∷ 0 ∷ 1 ∷ 1 ∷ 0 ∷ 0 ∷ [])
    ∷ (map (λ s. sound (put_account 2 (with_successor s (account closed 2)) closed)) (0 ∷ 1 ∷ 2 ∷ []) are 1 ∷ 1 ∷ 0 ∷ [])
    ∷ (map (λ s. sound (put_account 4 (with_successor s (account closed 4)) closed)) (0 ∷ 1 ∷ []) are 1 ∷ 0 ∷ [])
    ∷ []

pub successor-examples : map (λ c. c.got) cases ≡ map (λ c. c.want) cases
unfolding computing cases
successor-examples = refl
