-- Arrays that hold, at each number below their size, a sum over the first rows.
use Rattle.std.specs.Prelude.{ℕ, ◌*◌, ◌≤◌, ◌<◌, ◌≡◌, true, cond, List, ℤ, length, get_or}
use Rattle.lists.specs.Lists.{sum_by, only}
use Rattle.records.specs.Layout.{row_width}
use Rattle.records.specs.Encoding.{row_at, rows_of}
use Rattle.records.specs.Limits.{most_rows, most_accounts, highest_refund}
use Rattle.rules.specs.Rows.{Row, remaining, source_of, debit_of, payable}
use Rattle.rules.specs.Soundness.{kind_fits, returned_of}

-- xs holds the sums of f n over the first i rows
pub record Tallied (f : ℕ → Row → ℕ) (size : ℕ) (t : List ℤ) (xs : List ℕ) (i : ℕ) : Type 0 where
  pub sized : length xs ≡ size
  pub each : (n : ℕ) → n < size → get_or xs n 0 ≡ sum_by (f n) (rows_of t i)

-- ---- the sums of an account

unfoldable pub return_of : ℕ → Row → ℕ
return_of n r = cond (returned_of n r) 1 0

abbrev pub drawn_of : ℕ → Row → ℕ
drawn_of n = only (source_of n) (λ r. r.settled)

abbrev pub money_of : ℕ → Row → ℕ
money_of n = only (source_of n) remaining

abbrev pub paid_of : ℕ → Row → ℕ
paid_of n = only (debit_of n) (λ r. r.settled)

abbrev pub debt_of : List Row → ℕ → Row → ℕ
debt_of rows n = only (payable rows n) remaining

abbrev pub owed_of : ℕ → Row → ℕ
owed_of n = only (debit_of n) remaining

-- rows that have a kind, an account and amounts whose sums fit
pub record Countable (t : List ℤ) (used : ℕ) : Type 0 where
  pub room : used * row_width ≤ length t
  pub few : used ≤ most_rows
  pub kind : (i : ℕ) → i < used → kind_fits (row_at t i) ≡ true
  pub account : (i : ℕ) → i < used → (row_at t i).account ≤ most_accounts
  pub amount : (i : ℕ) → i < used → (row_at t i).amount ≤ highest_refund
  pub settled : (i : ℕ) → i < used → (row_at t i).settled ≤ (row_at t i).amount
