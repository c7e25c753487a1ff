-- Settlement (document 01, "Events"; document 02, No. 5), in closed form: rank by rank, what the unused sources have and the debits of the
-- rank want, the lesser of the two, allocated over each side in row order. SettlementSteps has the same in the text's own words.
use Rattle.std.specs.Prelude.{ℕ, zero, suc, ◌-◌, min, List, [], ◌∷◌}
use Rattle.lists.specs.Lists.{sum_by, only}
use Rattle.rules.specs.Rows.{Row, Test, remaining, settle_more, source_of, debit_of, payable, payable_toll, payable_rest, held_debit}

-- n allocated over the rows that pass the test, in row order: each takes what it can, the rest goes on
unfoldable pub allocate : Test → ℕ → List Row → List Row
allocate t n [] = []
allocate t n (r ∷ rs) = settle_more r (min (only t remaining r) n) ∷ allocate t (n - only t remaining r) rs

-- the account's unused money
unfoldable pub money : ℕ → List Row → ℕ
money a rows = sum_by (only (source_of a) remaining) rows

-- what its debits that are not held want
unfoldable pub debt : ℕ → List Row → ℕ
debt a rows = sum_by (only (payable rows a) remaining) rows

-- "until either side is spent": what all ranks together are paid
unfoldable pub moved : ℕ → List Row → ℕ
moved a rows = min (money a rows) (debt a rows)

-- the same of the debits that pass a test
unfoldable pub moved_to : Test → ℕ → List Row → ℕ
moved_to t a rows = min (money a rows) (sum_by (only t remaining) rows)

-- n of the account's money used for them: "sources in row order pay .. debits in row order"
unfoldable pub pay : Test → ℕ → ℕ → List Row → List Row
pay t a n rows = allocate t n (allocate (source_of a) n rows)

-- a rank is paid, as far as the money goes
unfoldable pub settle_rank : Test → ℕ → List Row → List Row
settle_rank t a rows = pay t a (moved_to t a rows) rows

-- one rank after the other: "Rows settled earlier are not rearranged" (document 02, No. 5)
unfoldable pub settle_ranks : List Test → ℕ → List Row → List Row
settle_ranks [] a rows = rows
settle_ranks (t ∷ ts) a rows = settle_ranks ts a (settle_rank t a rows)

-- "the account's unheld tolls in row order, then unheld fees and reversals in row order" (document 02, No. 5)
abbrev pub ranks : List Row → ℕ → List Test
ranks rows a = payable_toll rows a ∷ payable_rest rows a ∷ []

-- settlement of one account
unfoldable pub settle : ℕ → List Row → List Row
settle a rows = settle_ranks (ranks rows a) a rows

-- "per account": accounts 1 to n
unfoldable pub settle_accounts : ℕ → List Row → List Row
settle_accounts zero rows = rows
settle_accounts (suc n) rows = settle (suc n) (settle_accounts n rows)

-- ---- what settlement has moved

-- "used sources", "settled debits", and all that is unsettled, held or not
unfoldable pub used : ℕ → List Row → ℕ
used a rows = sum_by (only (source_of a) (λ r. r.settled)) rows

-- "settled debits": what is settled of its debits
unfoldable pub paid : ℕ → List Row → ℕ
paid a rows = sum_by (only (debit_of a) (λ r. r.settled)) rows

-- what is unsettled of its debits, held or not
unfoldable pub owed : ℕ → List Row → ℕ
owed a rows = sum_by (only (debit_of a) remaining) rows

-- "the unsettled part of held tolls and their fees" (document 02, No. 2)
unfoldable pub held_debt : ℕ → List Row → ℕ
held_debt a rows = sum_by (only (held_debit rows a) remaining) rows
