-- Tables that hold a book, or some of its rows, where others held one before.
use Rattle.std.specs.Prelude.{◌≡◌, ◌≢◌, ℕ, ◌≤◌, List, length, ℤ}
use Rattle.records.specs.Layout.{day_place, used_place, header_schedule}
use Rattle.records.specs.Encoding.{word, row_at, rows_of, accounts_of}
use Rattle.rules.specs.Rows.{Row}
use Rattle.rules.specs.Book.{Book}
use Rattle.rules.specs.Tables.{Tables, accounts_in, room_in, rows_used, book_of}

-- the words of the schedule and of the rate lists stay
abbrev pub Fixed : List ℤ → List ℤ → Type 0
Fixed h h' = (k : ℕ) → header_schedule ≤ k → word h' k ≡ word h k

-- u holds the book b where t held a book of no more rows, with the same schedule, rate lists and holidays
pub record Written (t u : Tables) (b : Book) : Type 0 where
  pub header-size : length u.header ≡ length t.header
  pub accounts-size : length u.accounts ≡ length t.accounts
  pub journal-size : length u.journal ≡ length t.journal
  pub day : word u.header day_place ≡ b.day
  pub used : word u.header used_place ≡ length b.rows
  pub fixed : Fixed t.header u.header
  pub schedule : b.schedule ≡ (book_of t).schedule
  pub lists : b.lists ≡ (book_of t).lists
  pub holidays : b.holidays ≡ (book_of t).holidays
  pub same-holidays : u.holidays ≡ t.holidays
  pub accounts : accounts_of u.accounts (accounts_in t) ≡ b.accounts
  pub rows : rows_of u.journal (length b.rows) ≡ b.rows
  pub room : b.room ≡ room_in t
  pub longer : rows_used t ≤ length b.rows
  pub rest : (k : ℕ) → length b.rows ≤ k → row_at u.journal k ≡ row_at t.journal k

-- h and j are t's header and journal, but with just these rows used
pub record UsedRows (t : Tables) (h j : List ℤ) (rs : List Row) : Type 0 where
  pub header-size : length h ≡ length t.header
  pub used : word h used_place ≡ length rs
  pub words : (k : ℕ) → k ≢ used_place → word h k ≡ word t.header k
  pub journal-size : length j ≡ length t.journal
  pub rows : rows_of j (length rs) ≡ rs
  pub longer : rows_used t ≤ length rs
  pub rest : (k : ℕ) → length rs ≤ k → row_at j k ≡ row_at t.journal k
