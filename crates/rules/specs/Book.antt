-- The book (document 01, "The book"): a day, a schedule, rate lists (document 02, No. 1), accounts, the used rows, how many rows the
-- journal has room for, and the holidays (No. 6).
use Rattle.std.specs.Prelude.{Bool, not, ◌&&◌, ℕ, ◌+◌, ◌-◌, List, [], ◌∷◌, ◌++◌, length, get_or, set, ℤ, pos, ◌-ℤ◌, leb, ltb}
pub use Rattle.records.specs.declared.Account.{Account}
pub use Rattle.records.specs.declared.Instruction.{Instruction}
pub use Rattle.records.specs.declared.Answer.{Answer}
pub use Rattle.records.specs.Codes.{state_unused, state_open, state_pending, state_closed}
pub use Rattle.records.specs.Updates.{unused}
use Rattle.lists.specs.Tests.{◌is◌}
use Rattle.lists.specs.Lists.{sum_by, only}
use Rattle.rules.specs.Schedule.{Schedule}
use Rattle.rules.specs.RateLists.{RateList}
use Rattle.rules.specs.Rows.{Row, row_no, source_of, debit_of}
use Rattle.rules.specs.Settlement.{held_debt, settle_accounts}

pub record Book : Type 0 where
  pub day : ℕ
  pub schedule : Schedule
  pub lists : List RateList
  pub accounts : List Account
  pub rows : List Row
  pub room : ℕ
  pub holidays : List ℕ

-- the book with another day
abbrev pub with_day : ℕ → Book → Book
with_day d b = record {
  day = d;
  schedule = b.schedule;
  lists = b.lists;
  accounts = b.accounts;
  rows = b.rows;
  room = b.room;
  holidays = b.holidays;
}

-- the book with other rate lists
abbrev pub with_lists : List RateList → Book → Book
with_lists ls b = record {
  day = b.day;
  schedule = b.schedule;
  lists = ls;
  accounts = b.accounts;
  rows = b.rows;
  room = b.room;
  holidays = b.holidays;
}

-- the book with other accounts
abbrev pub with_accounts : List Account → Book → Book
with_accounts xs b = record {
  day = b.day;
  schedule = b.schedule;
  lists = b.lists;
  accounts = xs;
  rows = b.rows;
  room = b.room;
  holidays = b.holidays;
}

-- the book with other rows
abbrev pub with_rows : List Row → Book → Book
with_rows rs b = record {
  day = b.day;
  schedule = b.schedule;
  lists = b.lists;
  accounts = b.accounts;
  rows = rs;
  room = b.room;
  holidays = b.holidays;
}

-- the book with other holidays
abbrev pub with_holidays : List ℕ → Book → Book
with_holidays hs b = record {
  day = b.day;
  schedule = b.schedule;
  lists = b.lists;
  accounts = b.accounts;
  rows = b.rows;
  room = b.room;
  holidays = hs;
}

-- ---- accounts and rows by their numbers, "numbered from 1"; all 0 where there is none

-- account n of a list
abbrev pub account_no : List Account → ℕ → Account
account_no xs n = get_or (unused ∷ xs) n unused

-- account n of the book
abbrev pub account : Book → ℕ → Account
account b n = account_no b.accounts n

-- row n of the book
abbrev pub row : Book → ℕ → Row
row b n = row_no b.rows n

-- account n, put back
abbrev pub put_account : ℕ → Account → Book → Book
put_account n x b = with_accounts (set b.accounts (n - 1) x) b

-- row n, written
abbrev pub put_row : ℕ → Row → Book → Book
put_row n r b = with_rows (set b.rows (n - 1) r) b

-- a row more
abbrev pub add_row : Row → Book → Book
add_row r b = with_rows (b.rows ++ (r ∷ [])) b

-- ---- balance

-- "sum of sources" of an account
unfoldable pub sources : List Row → ℕ → ℕ
sources rows a = sum_by (only (source_of a) (λ r. r.amount)) rows

-- "sum of debits" of an account, held or not
unfoldable pub debits : List Row → ℕ → ℕ
debits rows a = sum_by (only (debit_of a) (λ r. r.amount)) rows

-- m - n as an integer
unfoldable pub minus : ℕ → ℕ → ℤ
minus m n = pos m -ℤ pos n

-- "Balance = sum of sources - sum of debits, held ones included"
unfoldable pub balance : Book → ℕ → ℤ
balance b a = minus (sources b.rows a) (debits b.rows a)

-- ---- top-up due

-- "the top-up test compares the threshold with the balance plus the unsettled part of held tolls and their fees" (document 02, No. 2):
-- sources - debits + that part at most the threshold
unfoldable pub low_balance : Book → ℕ → Bool
low_balance b a = leb (sources b.rows a + held_debt a b.rows) (debits b.rows a + (account b a).threshold)

-- "Due when open, amount above 0, last decline not today, balance at most the threshold", the balance by the test above
unfoldable pub topup_due : Book → ℕ → Bool
topup_due b a = (account b a).state is state_open && ltb 0 (account b a).topup && not ((account b a).declined is b.day) && low_balance b a

-- ---- "Settlement ends every accepted event: per account"

-- the book after settlement of every account
unfoldable pub settled : Book → Book
settled b = with_rows (settle_accounts (length b.accounts) b.rows) b
