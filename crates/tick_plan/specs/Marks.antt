-- Marks on blocks of rows.
use Rattle.std.specs.Prelude.{◌≡◌, false, ℕ, ◌/◌, ◌<◌, List, ℤ, length, get_or}
use Rattle.records.specs.Encoding.{row_at}
use Rattle.rules.specs.Tick.{rises}

-- rows to a block
abbrev pub block_rows : ℕ
block_rows = 64

-- blocks to the most rows
abbrev pub block_count : ℕ
block_count = 128

-- of the first i rows none rises whose block has no mark
pub record Marked (today : ℕ) (t : List ℤ) (marks : List ℕ) (i : ℕ) : Type 0 where
  pub sized : length marks ≡ block_count
  pub none : (k : ℕ) → k < i → get_or marks (k / block_rows) 0 ≡ 0 → rises today (row_at t k) ≡ false
