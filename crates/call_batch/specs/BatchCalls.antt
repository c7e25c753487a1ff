-- What one record of a batch leaves of the tables and of the answer table.
use Rattle.std.specs.Prelude.{◌≡◌, ℕ, ◌*◌, List, ℤ}
use Rattle.records.specs.Layout.{answer_width}
use Rattle.records.specs.Encoding.{instruction_of, answer_words}
use Rattle.rules.specs.Posting.{receive}
use Rattle.rules.specs.Tables.{Tables, book_of, tables_of}
use Rattle.call_rules.specs.Calls.{Event}
use Rattle.tables.specs.Changes.{put_all}

-- the record x, posted on the tables t, leaves the tables u, and in the answer table its answer i
pub record RecordPosted (t u : Tables) (w v : List ℤ) (i : ℕ) (x : Event) : Type 0 where
  pub tables : u ≡ tables_of (receive (book_of t) (instruction_of x)).book
  pub answers : v ≡ put_all w (i * answer_width) 0 (answer_words (receive (book_of t) (instruction_of x)).answer)
