-- An account's sums over the first rows of a journal, as the code has them, and the two parts of "top-up due".
use Rattle.std.specs.Prelude.{◌≡◌, ℕ, List, Bool, not, ◌&&◌, ℤ, leb, ltb}
use Rattle.records.specs.Encoding.{rows_of}
use Rattle.lists.specs.Tests.{◌is◌}
use Rattle.lists.specs.Lists.{sum_by, only}
use Rattle.rules.specs.Rows.{Row}
use Rattle.rules.specs.Book.{Account, state_open}
use Rattle.rules.specs.Book as book
use Rattle.balances.specs.declared.Sums.{Sums}

-- what f gives for the rows of account a, summed
unfoldable pub account_sum : List Row → ℕ → (Row → ℕ) → ℕ
account_sum rows a f = sum_by (only (λ r. r.account is a) f) rows

-- the sums of account a over the first i rows
pub record Summed (t : List ℤ) (a i : ℕ) (s : Sums) : Type 0 where
  pub sources : s.sources ≡ book.sources (rows_of t i) a
  pub debits : s.debits ≡ book.debits (rows_of t i) a

-- "Due when open, amount above 0, last decline not today": all but the balance
unfoldable pub may_topup : Account → ℕ → Bool
may_topup x today = x.state is state_open && ltb 0 x.topup && not (x.declined is today)

-- "unused money at most the threshold": what the rest of the test comes to on a sound book (rules/proofs/BalanceLaws, due-money)
unfoldable pub is_low : Account → ℕ → Bool
is_low x m = leb m x.threshold
