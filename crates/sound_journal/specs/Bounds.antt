-- What the lengths and the header have shown before any row is read.
use Rattle.std.specs.Prelude.{ℕ, ◌*◌, ◌≤◌, List, ℤ, length}
use Rattle.records.specs.Layout.{account_width}
use Rattle.records.specs.Limits.{most_accounts, most_rows}

-- the accounts are in their table, and no more than there may be, as the used rows are
pub record Bounds (accounts : List ℤ) (count used : ℕ) : Type 0 where
  pub few : used ≤ most_rows
  pub slots : count * account_width ≤ length accounts
  pub fewer : count ≤ most_accounts
