-- What posting an event leaves of the tables and answers.
use Rattle.std.specs.Prelude.{ℕ, ◌+◌, ◌*◌, ◌≤◌, ◌<◌, ◌≡◌, true, cond, List, ℤ, pos, length, set}
use Rattle.std.specs.Fn.{Shared}
use Rattle.records.specs.Layout.{header_width, used_place, row_width}
use Rattle.records.specs.Encoding.{word, row_at}
use Rattle.lists.specs.Tests.{◌is◌}
use Rattle.records.specs.Limits.{most_rows, highest_refund}
use Rattle.rules.specs.Rows.{Row}
use Rattle.rules.specs.Book.{Instruction, Answer}
use Rattle.rules.specs.Posting.{post}
pub use Rattle.rules.specs.Tables.{three_tables, tables_over}
use Rattle.rules.specs.Tables.{Tables, tables_with, book_of, tables_of, sound_tables}
use Rattle.tables.specs.Changes.{RowIn, RowChanged}

-- used rows whose amounts can be summed
pub record Amounts (t : List ℤ) (used : ℕ) : Type 0 where
  pub room : used * row_width ≤ length t
  pub few : used ≤ most_rows
  pub small : (k : ℕ) → k < used → (row_at t k).amount ≤ highest_refund

-- code measures a row by f, which is at most the row's amount
pub record Measures {F : Type 0} (g : Shared F (Row × Unit {0}) ℕ) (part : F) (f : Row → ℕ) : Type 0 where
  pub takes : (r : Row) → g.pre part (r, tt)
  pub gives : (r : Row) (x : ℕ) → g.post part (r, tt) x → x ≡ f r
  pub within : (r : Row) → f r ≤ r.amount

-- the answer of an accepted event: `used` rows before it, `added` by it
abbrev pub acceptance_of : ℕ → ℕ → ℕ → ℕ → Answer
acceptance_of used added raised removed = record {
  number = 0;
  first = cond (added is 0) 0 (used + 1);
  added = added;
  raised = raised;
  removed = removed;
}

-- the journal has room for one row more
pub record RowRoom (h j : List ℤ) : Type 0 where
  pub header : length h ≡ header_width
  pub room : RowIn j (word h used_place)

-- the row r is added: one row more is used, and every other row and header word is as before
pub record RowAdded (h h' j j' : List ℤ) (r : Row) : Type 0 where
  pub header : h' ≡ set h used_place (pos (word h used_place + 1))
  pub row : RowChanged j j' (word h used_place) r

-- the event e on the sound tables t gives the answer r and the tables u
pub record Posts (t u : Tables) (e : Instruction) (r : Answer) : Type 0 where
  pub answer : r ≡ (post (book_of t) e).answer
  pub tables : u ≡ tables_of (post (book_of t) e).book

-- so it is with any holidays that the book may have: an event but a tick never reads them (document 02, No. 6)
abbrev pub PostsAny : Tables → Tables → Instruction → Answer → Type 0
PostsAny t u e r = (hs : List ℤ) → sound_tables (tables_with hs t) ≡ true → Posts (tables_with hs t) (tables_with hs u) e r
