-- The refusals of event 4's own, out of the table of all, in checking order; and what its steps need of the tables and leave.
use Rattle.std.specs.Prelude.{◌≡◌, not, ◌&&◌, ℕ, ◌+◌, ◌-◌, ◌*◌, ◌/◌, ◌≤◌, List, [], ◌∷◌, length, ℤ, ltb}
use Rattle.records.specs.Numbers.{answer_no_row, answer_untimely, answer_full}
use Rattle.records.specs.Codes.{method_check, method_check_returned}
use Rattle.records.specs.Layout.{account_width, row_width}
use Rattle.records.specs.Encoding.{rows_of, StorableRow, StorableAccount}
use Rattle.records.specs.AccountOperations.{check_returned}
use Rattle.lists.specs.Tests.{◌is◌, Cases}
use Rattle.rules.specs.Rows.{kind_payment, row_no, with_mark}
use Rattle.rules.specs.Book.{Account, Instruction, Book, row}
use Rattle.tables.specs.Changes.{RowChanged, AccountChanged}

-- no payment row of the account, one that is no check, and no two rows for the return
unfoldable pub return_refusals : Book → Instruction → Cases
return_refusals b e =
    (answer_no_row, not ((row b e.a).kind is kind_payment && (row b e.a).account is e.account))
    ∷ (answer_untimely, not ((row b e.a).mark is method_check))
    ∷ (answer_full, ltb b.room (length b.rows + 2))
    ∷ []

-- ---- the account counts the return

-- account n is one of the table's, and a word holds the count of x
pub record Counts (t : List ℤ) (n : ℕ) (x : Account) : Type 0 where
  pub from : 1 ≤ n
  pub to : n ≤ length t / account_width
  pub holds : StorableAccount (check_returned x)

-- account n becomes x with one returned check more
abbrev pub ReturnCounted : List ℤ → List ℤ → ℕ → Account → Type 0
ReturnCounted t u n x = AccountChanged t u (n - 1) (check_returned x)

-- ---- the payment is marked

-- row n is a used one
pub record Marks (t : List ℤ) (used n : ℕ) : Type 0 where
  pub room : used * row_width ≤ length t
  pub from : 1 ≤ n
  pub to : n ≤ used
  pub holds : StorableRow (row_no (rows_of t used) n)

-- row n has the mark of a returned check, and m is its amount
pub record Marked (t u : List ℤ) (used n m : ℕ) : Type 0 where
  pub marked : RowChanged t u (n - 1) (with_mark method_check_returned (row_no (rows_of t used) n))
  pub amount : m ≡ (row_no (rows_of t used) n).amount
