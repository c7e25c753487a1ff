-- What one pass over the rows has shown of the first i of them.
use Rattle.std.specs.Prelude.{ℕ, ◌+◌, ◌≤◌, ◌<◌, ◌≡◌, Bool, true, false, ◌&&◌, length}
use Rattle.records.specs.Encoding.{row_at}
use Rattle.rules.specs.Rows.{Row}
use Rattle.plain_rows.specs.Alike.{AlikeRow}
use Rattle.sound_header.specs.Clauses.{rows_stand}
use Rattle.sound_journal.specs.declared.frame.Frame.{Frame}
use Rattle.sound_journal.specs.Passing.{frame_accounts, frame_rows, passes_in}
use Rattle.sound_passages.specs.Trees.{passages_differ, TreesOf}
use Rattle.sound_fees.specs.Fees.{fees_few, FeesCounted}
use Rattle.account_sums.specs.AccountSums.{Tallies}
use Rattle.sound_walk.specs.declared.Arrays.{Arrays}

-- the same memory, of the same lengths, with the same space
pub record SameArrays (a b : Arrays) : Type 0 where
  pub space : b.space ≡ a.space
  pub cells : b.cells.ghost_name ≡ a.cells.ghost_name
  pub counts : b.counts.ghost_name ≡ a.counts.ghost_name
  pub sums : b.sums.ghost_name ≡ a.sums.ghost_name
  pub cells-length : length b.cells.now ≡ length a.cells.now
  pub counts-length : length b.counts.now ≡ length a.counts.now
  pub sums-length : length b.sums.now ≡ length a.sums.now

-- each stands, their passage numbers differ, and the arrays hold their trees, fees and sums
pub record Walked (f : Frame) (a : Arrays) (i : ℕ) : Type 0 where
  pub held : f.rows.used ≤ a.space
  pub stood : (k : ℕ) → k < i → passes_in f (k + 1) (row_at f.rows.journal.now k) ≡ true
  pub trees : TreesOf a.space f.rows.journal.now a.cells.now i
  pub fees : FeesCounted a.space f.rows.journal.now a.counts.now i
  pub tallies : Tallies f.rows.journal.now f.rows.used a.sums.now i

-- a row does not stand, or has the passage number of another, or too many fees
abbrev pub Unfit : Frame → Type 0
Unfit f =
    rows_stand (frame_accounts f) (frame_rows f) f.term.today f.term.stage
    && (passages_differ (frame_rows f) && fees_few (frame_rows f)) ≡ false

-- what b says of the first i rows
pub record Walks (f : Frame) (a : Arrays) (i : ℕ) (b : Bool) : Type 0 where
  pub good : b ≡ true → Walked f a i
  pub bad : b ≡ false → Unfit f

-- ---- one row

-- row i, read as r
pub record Turn (f : Frame) (i : ℕ) (r : Row) : Type 0 where
  pub inside : i < f.rows.used
  pub alike : AlikeRow r (row_at f.rows.journal.now i)

-- row i is r, and stands
pub record Stands (f : Frame) (i : ℕ) (r : Row) : Type 0 where
  pub inside : i < f.rows.used
  pub same : r ≡ row_at f.rows.journal.now i
  pub passes : passes_in f (i + 1) r ≡ true
