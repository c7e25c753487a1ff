-- The clauses on a row of the framed tables.
use Rattle.std.specs.Prelude.{◌≡◌, Bool, ℕ, List}
use Rattle.records.specs.Encoding.{accounts_of}
use Rattle.table_rows.specs.UsedRows.{rows_in}
use Rattle.rules.specs.Rows.{Row}
use Rattle.rules.specs.Book.{Account}
use Rattle.sound_header.specs.Clauses.{row_passes}
use Rattle.sound_journal.specs.declared.frame.Frame.{Frame}

-- a frame's accounts and used rows
abbrev pub frame_accounts : Frame → List Account
frame_accounts f = accounts_of f.accounts.now f.count

abbrev pub frame_rows : Frame → List Row
frame_rows f = rows_in f.rows

-- a row numbered n as the tables' accounts, rows and header have it stand
abbrev pub passes_in : Frame → ℕ → Row → Bool
passes_in f n r = row_passes (frame_accounts f) (frame_rows f) f.term.today f.term.stage n r

-- b says whether r stands, whatever the rows are and its number among them: it refers to none
abbrev pub PassesAnywhere : Frame → Row → Bool → Type 0
PassesAnywhere f r b = (rows : List Row) (n : ℕ) → b ≡ row_passes (frame_accounts f) rows f.term.today f.term.stage n r
