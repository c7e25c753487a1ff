-- The closings of a tick in the terms in which code carries them out: `owed` and `money` are what an account owes and has, and `r` holds
-- it at each account number.
use Rattle.std.specs.Prelude.{◌≡◌, Bool, true, false, cond, ◌&&◌, ℕ, ◌+◌, ◌*◌, ◌-◌, ◌/◌, ◌^◌, ◌≤◌, ◌<◌, List, ◌++◌, length, get_or, ℤ, ltb}
use Rattle.records.specs.Layout.{header_width, day_place, used_place, row_width, account_width}
use Rattle.records.specs.Encoding.{word, row_at, rows_of, account_at, accounts_of, StorableAccount}
use Rattle.records.specs.AccountOperations.{closed}
use Rattle.lists.specs.Tests.{◌is◌}
use Rattle.lists.specs.Lists.{one, gather, change}
use Rattle.records.specs.Limits.{most_accounts}
use Rattle.rules.specs.BusinessDays.{business_day}
use Rattle.rules.specs.Rows.{Row, kind_refund, new_row, source, settle_whole}
use Rattle.rules.specs.Book.{Account}
use Rattle.rules.specs.Tick.{close_accounts}
use Rattle.rules.specs.Tables.{Tables, holidays_in, book_of}
use Rattle.tables.specs.Changes.{AccountIn, AccountChanged}
use Rattle.posting.specs.Posts.{three_tables, RowRoom, RowAdded}
use Rattle.posting.specs.Written.{UsedRows}
use Rattle.tick_base.specs.Midway.{Midway}
use Rattle.tick_base.specs.declared.sums.Remains.{Remains}
use Rattle.tick_base.specs.Remainders.{days_over}

-- ---- one account

-- its days are over and it owes nothing
unfoldable pub closes_by : ℕ → ℕ → Account → Bool
closes_by today owed x = days_over today x && owed is 0

-- the account after the closings
unfoldable pub close_by : ℕ → ℕ → Account → Account
close_by today owed x = cond (closes_by today owed x) (closed x) x

-- it closes with money left
unfoldable pub refunds_by : ℕ → ℕ → ℕ → Account → Bool
refunds_by today money owed x = closes_by today owed x && ltb 0 money

-- the refund of account n
abbrev pub refund_of : ℕ → ℕ → ℕ → Row
refund_of today money n = settle_whole (new_row kind_refund n today money)

-- account n closes with money left
abbrev pub refunds_at : ℕ → Remains → ℕ → Account → Bool
refunds_at today r n = refunds_by today (get_or r.money n 0) (get_or r.owed n 0)

-- account i, of number i + 1, can be closed and a refund row added
pub record Closable (h a j : List ℤ) (i today : ℕ) (r : Remains) : Type 0 where
  pub account : AccountIn a i
  pub number : i < most_accounts
  pub holds : StorableAccount (account_at a i)
  pub day : today < 2 ^ 63
  pub amount : get_or r.money (i + 1) 0 < 2 ^ 63
  pub room : refunds_at today r (i + 1) (account_at a i) ≡ true → RowRoom h j

-- account i closes if it is to, and its money leaves as one row if it has any
pub record ClosedOne (h h' a a' j j' : List ℤ) (i today : ℕ) (r : Remains) : Type 0 where
  pub account : AccountChanged a a' i (close_by today (get_or r.owed (i + 1) 0) (account_at a i))
  pub refund : refunds_at today r (i + 1) (account_at a i) ≡ true → RowAdded h h' j j' (refund_of today (get_or r.money (i + 1) 0) (i + 1))
  pub none : refunds_at today r (i + 1) (account_at a i) ≡ false → (h' ≡ h) × (j' ≡ j)

-- ---- the sources

-- the row after the closings, its account read from the table
unfoldable pub use_up_by : ℕ → List ℤ → List ℕ → Row → Row
use_up_by today a owed r = cond (source r && closes_by today (get_or owed r.account 0) (account_at a (r.account - 1))) (settle_whole r) r

-- a row of an account of the table
pub record Usable (a : List ℤ) (r : Row) : Type 0 where
  pub from : 1 ≤ r.account
  pub to : AccountIn a (r.account - 1)
  pub few : r.account ≤ most_accounts
  pub amount : r.amount < 2 ^ 63

pub record UsableRows (a j : List ℤ) (used : ℕ) : Type 0 where
  pub room : used * row_width ≤ length j
  pub each : (k : ℕ) → k < used → Usable a (row_at j k)

-- ---- all accounts, by account number

unfoldable pub close_at : ℕ → Remains → ℕ → Account → Account
close_at today r n x = close_by today (get_or r.owed n 0) x

unfoldable pub refund_at : ℕ → Remains → ℕ → Account → List Row
refund_at today r n x = one (refunds_at today r n x) (refund_of today (get_or r.money n 0) n)

-- the refunds of the first i accounts
abbrev pub refunds_to : ℕ → Remains → List ℤ → ℕ → List Row
refunds_to today r a i = gather (refund_at today r) (accounts_of a i)

-- each account can be closed and all refunds added
pub record AllClosable (h a j : List ℤ) (today : ℕ) (r : Remains) : Type 0 where
  pub header : length h ≡ header_width
  pub few : length a / account_width ≤ most_accounts
  pub holds : (k : ℕ) → k < length a / account_width → StorableAccount (account_at a k)
  pub day : today < 2 ^ 63
  pub amounts : (n : ℕ) → n ≤ most_accounts → get_or r.money n 0 < 2 ^ 63
  pub room : word h used_place + length (refunds_to today r a (length a / account_width)) ≤ length j / row_width

-- the first i accounts are done
pub record ClosedTo (h a j h' a' j' : List ℤ) (today : ℕ) (r : Remains) (i : ℕ) : Type 0 where
  pub size : length a' ≡ length a
  pub done : accounts_of a' i ≡ change (close_at today r) (accounts_of a i)
  pub left : (k : ℕ) → i ≤ k → account_at a' k ≡ account_at a k
  pub rows : UsedRows (three_tables h a j) h' j' (rows_of j (word h used_place) ++ refunds_to today r a i)

-- ---- the tables

-- midway on a business day, with room for the refunds
pub record ReadyToClose (t : Tables) : Type 0 where
  pub midway : Midway (word t.header day_place) t
  pub business : business_day (holidays_in t) (word t.header day_place) ≡ true
  pub room : length (close_accounts (book_of t)).rows ≤ length t.journal / row_width
