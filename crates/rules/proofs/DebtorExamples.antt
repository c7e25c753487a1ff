-- Heavy debtors at their limit (document 02, No. 7), computed from the definitions: what counts, how many rows are read.
use mathlib.Core.Path.{◌≡◌, refl}
use mathlib.Core.Bool.{cond}
use Prim.Native.Nat.{ℕ}
use mathlib.Core.List.{List, [], ◌∷◌, ◌++◌, map}
use Rattle.rules.specs.Schedule.{Rates}
use Rattle.rules.specs.Book.{Instruction, Book}
use Rattle.rules.specs.Opening.{opening}
use Rattle.rules.specs.Posting.{book_after}
use Rattle.rules.specs.Debtors.{heavy, rows_read}
use Rattle.rules.proofs.Computing.{computing}
use Rattle.rules.proofs.Examples.{Case, ◌gives◌, event, ticks, schedule}

-- ---- how cases are written

-- a toll by tag is 25,000, one by plate 1
abbrev dear : Rates
dear = record { tag1 = 25_000; plate1 = 1; tag2 = 600; plate2 = 900; tag3 = 1200; plate3 = 1600 }

abbrev tag : ℕ
tag = 1

abbrev plate : ℕ
plate = 2

-- a toll of account a, with a passage number
abbrev toll : ℕ → ℕ → ℕ → Instruction
toll a p mode = event 2 a p 1 2 60 mode

-- two accounts, and what is posted on them
abbrev pub book : List Instruction → Book
book es = book_after (opening 1 schedule dear 3 16) (event 1 1 0 0 0 0 0 ∷ event 1 2 0 0 0 0 0 ∷ es)

-- yes or no, and the rows read
abbrev asked : ℕ → List Instruction → List ℕ
asked a es = cond (heavy (book es) a) 1 0 ∷ rows_read (book es) a ∷ []

-- account 1 owes 25,001 by its two rows, among others'
abbrev pub among : List Instruction
among = toll 2 41 plate ∷ toll 1 42 tag ∷ toll 2 43 plate ∷ toll 1 44 plate ∷ toll 2 45 plate ∷ []

pub cases : List Case
cases =
    -- no rows; 25,000; 25,001; more rows after those that decide
    (asked 1 [] gives 0 ∷ 0 ∷ [])
    ∷ (asked 1 (toll 1 41 tag ∷ []) gives 0 ∷ 1 ∷ [])
    ∷ (asked 1 (toll 1 41 tag ∷ toll 1 42 plate ∷ []) gives 1 ∷ 2 ∷ [])
    ∷ (asked 1 (toll 1 41 plate ∷ toll 1 42 tag ∷ toll 1 43 tag ∷ []) gives 1 ∷ 2 ∷ [])
    -- rows of every account are counted, debts of this one alone
    ∷ (asked 1 among gives 1 ∷ 4 ∷ [])
    ∷ (asked 2 among gives 0 ∷ 5 ∷ [])
    -- what is settled does not count
    ∷ (asked 1 (toll 1 41 tag ∷ toll 1 42 plate ∷ event 3 1 1 2 0 0 0 ∷ []) gives 0 ∷ 3 ∷ [])
    -- a held toll does not, once it is freed it does
    ∷ (asked 1 (toll 1 41 tag ∷ toll 1 42 plate ∷ event 5 1 1 0 0 0 0 ∷ []) gives 0 ∷ 2 ∷ [])
    ∷ (asked 1 (toll 1 41 tag ∷ toll 1 42 plate ∷ event 5 1 1 0 0 0 0 ∷ event 6 1 1 0 0 0 0 ∷ []) gives 1 ∷ 2 ∷ [])
    -- a fee counts, and not where its toll is held: 500 at stage 2, after 60 days
    ∷ (asked 1 (toll 1 41 tag ∷ ticks 60) gives 1 ∷ 2 ∷ [])
    ∷ (asked 1 (toll 1 41 tag ∷ ticks 60 ++ (toll 1 42 tag ∷ event 5 1 1 0 0 0 0 ∷ [])) gives 0 ∷ 3 ∷ [])
    -- of a returned check the fee of 1,000 counts, the reversal of 30,000 does not
    ∷ (asked 1 (event 3 1 30_000 3 0 0 0 ∷ event 4 1 1 500 0 0 0 ∷ []) gives 0 ∷ 3 ∷ [])
    ∷ (asked 1 (event 3 1 30_000 3 0 0 0 ∷ event 4 1 1 500 0 0 0 ∷ toll 1 41 tag ∷ []) gives 1 ∷ 4 ∷ [])
    -- also where it is owed: 25,000 of it, since the check had paid a toll
    ∷ (asked 1 (toll 1 41 tag ∷ event 3 1 30_000 3 0 0 0 ∷ event 4 1 2 500 0 0 0 ∷ []) gives 0 ∷ 4 ∷ [])
    ∷ []

pub debtor-examples : map (λ c. c.got) cases ≡ map (λ c. c.want) cases
unfolding computing cases
debtor-examples = refl
