-- The order in which debts are paid (document 02, No. 5), computed from the definitions: tolls first, then fees and reversals.
use mathlib.Core.Path.{◌≡◌, refl}
use Prim.Native.Nat.{ℕ}
use mathlib.Core.List.{List, [], ◌∷◌, ◌++◌, map}
use Rattle.rules.specs.Book.{Instruction, Book}
use Rattle.rules.specs.Soundness.{sound}
use Rattle.rules.specs.Posting.{book_after}
use Rattle.rules.specs.Opening.{opening}
use Rattle.rules.proofs.Computing.{computing}
use Rattle.rules.proofs.Examples.{Case, ◌gives◌, event, ticks, rates}
use Rattle.rules.proofs.Borders.{◌are◌}

-- ---- account 1, stages of one day; every toll is 500, and the fee of stage 2 too

abbrev after : List Instruction → Book
after es = book_after (opening 1 (record { stage = 1; fee2 = 500; fee3 = 2500; fee4 = 3000 }) rates 1 12) (event 1 1 0 0 0 0 0 ∷ es)

abbrev toll : ℕ → ℕ → Instruction
toll number day = event 2 1 number day 2 60 2

abbrev pay : ℕ → ℕ → Instruction
pay amount method = event 3 1 amount method 0 0 0

-- row 1 a toll and row 2 its fee; row 3 a toll of later
abbrev two_tolls : List Instruction
two_tolls = toll 41 1 ∷ ticks 2 ++ toll 42 3 ∷ []

-- row 4 holds the amount
abbrev paid : ℕ → Book
paid amount = after (two_tolls ++ pay amount 2 ∷ [])

-- the fee is part paid before the later toll comes: rows toll, fee, two payments, toll
abbrev fee_first : Book
fee_first = after (toll 41 1 ∷ ticks 2 ++ pay 500 2 ∷ pay 300 2 ∷ toll 42 3 ∷ [])

-- rows toll, fee, a payment, a check, its reversal and its fee, a payment
abbrev returned : ℕ → Book
returned amount = after (toll 41 1 ∷ ticks 2 ++ pay 500 2 ∷ pay 400 3 ∷ event 4 1 4 0 0 0 0 ∷ pay amount 2 ∷ [])

-- both tolls are held, and 700 lie idle until a tick ends both holds
abbrev held_for : ℕ → Book
held_for n = after (two_tolls ++ event 5 1 1 0 0 0 0 ∷ event 5 1 3 0 0 0 0 ∷ pay 700 2 ∷ ticks n)

-- toll 1 with its fee is upheld beside an older debt: rows toll, fee, toll, the credit
abbrev upheld : Book
upheld = after (two_tolls ++ event 5 1 1 0 0 0 0 ∷ event 6 1 1 1 0 0 0 ∷ [])

abbrev settled_parts : Book → List ℕ
settled_parts b = map (λ r. r.settled) b.rows

pub cases : List Case
cases =
    -- the later toll before the older fee, and then the fee
    (settled_parts (paid 700) gives 500 ∷ 0 ∷ 200 ∷ 700 ∷ [])
    ∷ (settled_parts (paid 1_000) gives 500 ∷ 0 ∷ 500 ∷ 1_000 ∷ [])
    ∷ (settled_parts (paid 1_200) gives 500 ∷ 200 ∷ 500 ∷ 1_200 ∷ [])
    ∷ (settled_parts (paid 1_600) gives 500 ∷ 500 ∷ 500 ∷ 1_500 ∷ [])
    -- "Rows settled earlier are not rearranged": a part-paid fee beside an unpaid toll, which is sound; what comes next is the toll's
    ∷ (settled_parts fee_first gives 500 ∷ 300 ∷ 500 ∷ 300 ∷ 0 ∷ [])
    ∷ (map sound (fee_first ∷ book_after fee_first (pay 100 2 ∷ []) ∷ []) are 1 ∷ 1 ∷ [])
    ∷ (settled_parts (book_after fee_first (pay 100 2 ∷ [])) gives 500 ∷ 300 ∷ 500 ∷ 300 ∷ 100 ∷ 100 ∷ [])
    -- fees and reversals together, in row order
    ∷ (settled_parts (returned 50) gives 500 ∷ 450 ∷ 500 ∷ 400 ∷ 0 ∷ 0 ∷ 50 ∷ [])
    ∷ (settled_parts (returned 600) gives 500 ∷ 500 ∷ 500 ∷ 400 ∷ 400 ∷ 100 ∷ 600 ∷ [])
    -- held tolls and their fees are passed over; inside the tick that frees them the order is the same
    ∷ (settled_parts (held_for 29) gives 0 ∷ 0 ∷ 0 ∷ 0 ∷ [])
    ∷ (settled_parts (held_for 30) gives 500 ∷ 0 ∷ 200 ∷ 700 ∷ [])
    -- an upheld credit covers exactly its toll and fee
    ∷ (settled_parts upheld gives 500 ∷ 500 ∷ 0 ∷ 1_000 ∷ [])
    ∷ []

pub rank-examples : map (λ c. c.got) cases ≡ map (λ c. c.want) cases
unfolding computing cases
rank-examples = refl
