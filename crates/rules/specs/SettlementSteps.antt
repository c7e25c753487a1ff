-- Settlement in the words of documents 01 and 02: "unused sources in row order pay unsettled unheld debits in row order, until either side
-- is spent", the tolls first and then the fees and reversals (No. 5). SettlementStepsLaws proves it equal to the closed form.
use Rattle.std.specs.Prelude.{ℕ, zero, suc, min, cond, List, [], ◌∷◌}
use Rattle.lists.specs.Tests.{◌is◌}
use Rattle.lists.specs.Lists.{only}
use Rattle.rules.specs.Rows.{Row, Test, remaining, settle_more, source_of}
use Rattle.rules.specs.Settlement.{moved_to, ranks}

-- what remains of the first row that passes the test and has something remaining; 0 where there is none
unfoldable pub first_remaining : Test → List Row → ℕ
first_remaining t [] = 0
first_remaining t (r ∷ rs) = cond (only t remaining r is 0) (first_remaining t rs) (only t remaining r)

-- n more of that row settled
unfoldable pub settle_first : Test → ℕ → List Row → List Row
settle_first t n [] = []
settle_first t n (r ∷ rs) = cond (only t remaining r is 0) (r ∷ settle_first t n rs) (settle_more r n ∷ rs)

-- the first unused source pays the first debit that passes the test: the lesser of what the one has and the other wants
unfoldable pub first_payment : Test → ℕ → List Row → ℕ
first_payment t a rows = min (first_remaining (source_of a) rows) (first_remaining t rows)

-- one payment: both rows have that much more settled
unfoldable pub pay_first : Test → ℕ → List Row → List Row
pay_first t a rows = settle_first t (first_payment t a rows) (settle_first (source_of a) (first_payment t a rows) rows)

-- k payments, one after the other
unfoldable pub pay_times : ℕ → Test → ℕ → List Row → List Row
pay_times zero t a rows = rows
pay_times (suc k) t a rows = pay_times k t a (pay_first t a rows)

-- "until either side is spent": each payment moves a cent or more while something is to be moved, so as many payments as cents suffice;
-- then the next rank
unfoldable pub ranks_in_steps : List Test → ℕ → List Row → List Row
ranks_in_steps [] a rows = rows
ranks_in_steps (t ∷ ts) a rows = ranks_in_steps ts a (pay_times (moved_to t a rows) t a rows)

-- "the account's unheld tolls in row order, then unheld fees and reversals in row order" (document 02, No. 5)
unfoldable pub settle_in_steps : ℕ → List Row → List Row
settle_in_steps a rows = ranks_in_steps (ranks rows a) a rows
