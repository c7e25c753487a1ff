-- Top-up due beside held debts (document 02, No. 2), computed from the definitions: when it is due, event 7 and the balance.
use mathlib.Core.Path.{◌≡◌, refl}
use Prim.Native.Nat.{ℕ}
use mathlib.Core.List.{List, [], ◌∷◌, ◌++◌, map}
use lib.ListN.{replicate}
use lib.IntN.{negsuc}
use Rattle.rules.specs.Settlement.{money, held_debt}
use Rattle.rules.specs.Book.{Instruction, Book, balance, topup_due}
use Rattle.rules.specs.Posting.{book_after}
use Rattle.rules.specs.Opening.{opening}
use Rattle.rules.proofs.Computing.{computing}
use Rattle.rules.proofs.Examples.{Case, ◌gives◌, ◌amounts-to◌, event, ticks, rates, numbers}
use Rattle.rules.proofs.Borders.{◌are◌}

-- ---- account 1: threshold 100, top-up amount 2,000; stages of one day

abbrev opened : Book
opened =
    book_after (opening 1 (record { stage = 1; fee2 = 500; fee3 = 2500; fee4 = 3000 }) rates 1 8)
    (event 1 1 100 2_000 0 0 0 ∷ [])

-- a toll of 500
abbrev toll : Instruction
toll = event 2 1 41 1 2 60 2

-- row n is disputed, and then an amount is paid
abbrev disputed_then : ℕ → ℕ → List Instruction
disputed_then n amount = event 5 1 n 0 0 0 0 ∷ event 3 1 amount 1 0 0 0 ∷ []

-- nothing of it is paid before
abbrev held_then : ℕ → Book
held_then amount = book_after opened (toll ∷ disputed_then 1 amount)

-- 200 of it are paid before
abbrev part_held_then : ℕ → Book
part_held_then amount = book_after opened (event 3 1 200 1 0 0 0 ∷ toll ∷ disputed_then 2 amount)

-- it has a fee of 500
abbrev pub fee_held_then : ℕ → Book
fee_held_then amount = book_after opened (toll ∷ ticks 2 ++ disputed_then 1 amount)

-- a result: 1 paid, 0 declined
abbrev result : ℕ → Instruction
result b = event 7 1 0 b 0 0 0

-- what either result is answered
abbrev results : Book → List ℕ
results b = numbers b (result 1 ∷ []) ++ numbers b (result 0 ∷ [])

pub cases : List Case
cases =
    -- low only through held debts: no at 101 above them, yes at 100, "at most"
    (map (λ n. topup_due (held_then n) 1) (1 ∷ 100 ∷ 101 ∷ 599 ∷ 600 ∷ []) are 1 ∷ 1 ∷ 0 ∷ 0 ∷ 0 ∷ [])
    ∷ (map (λ n. topup_due (part_held_then n) 1) (100 ∷ 101 ∷ []) are 1 ∷ 0 ∷ [])
    ∷ (map (λ n. topup_due (fee_held_then n) 1) (100 ∷ 101 ∷ []) are 1 ∷ 0 ∷ [])
    -- 11 for both results, else 0
    ∷ (results (held_then 101) ++ results (part_held_then 101) ++ results (fee_held_then 101) gives replicate 6 11)
    ∷ (results (held_then 100) ++ results (part_held_then 100) ++ results (fee_held_then 100) gives replicate 6 0)
    -- "The balance itself still includes them"
    ∷ (balance (held_then 101) 1 amounts-to negsuc 398)
    ∷ (balance (part_held_then 101) 1 amounts-to negsuc 198)
    ∷ (balance (fee_held_then 101) 1 amounts-to negsuc 898)
    -- what is held, and the unused money
    ∷ (map (held_debt 1) ((held_then 101).rows ∷ (part_held_then 101).rows ∷ (fee_held_then 101).rows ∷ []) gives 500 ∷ 300 ∷ 1_000 ∷ [])
    ∷ (map (money 1) ((held_then 101).rows ∷ (part_held_then 101).rows ∷ (fee_held_then 101).rows ∷ []) gives 101 ∷ 101 ∷ 101 ∷ [])
    -- rejected, the toll is paid from what was unused, and the top-up is due; upheld, it is not
    ∷ (numbers (held_then 101) (event 6 1 1 0 0 0 0 ∷ result 1 ∷ []) gives 0 ∷ 0 ∷ [])
    ∷ (numbers (held_then 101) (event 6 1 1 1 0 0 0 ∷ result 1 ∷ []) gives 0 ∷ 11 ∷ [])
    ∷ []

pub topup-examples : map (λ c. c.got) cases ≡ map (λ c. c.want) cases
unfolding computing cases
topup-examples = refl
