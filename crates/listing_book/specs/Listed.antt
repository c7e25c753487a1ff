-- Rows that can be listed.
use Rattle.std.specs.Prelude.{ℕ, ◌*◌, ◌≤◌, ◌<◌, List, ℤ, length}
use Rattle.records.specs.Layout.{row_width}
use Rattle.records.specs.Encoding.{row_at}
use Rattle.records.specs.Limits.{final_day}

-- used rows whose days have a date
pub record Dated (t : List ℤ) (used : ℕ) : Type 0 where
  pub room : used * row_width ≤ length t
  pub from : (k : ℕ) → k < used → 1 ≤ (row_at t k).day
  pub to : (k : ℕ) → k < used → (row_at t k).day ≤ final_day
