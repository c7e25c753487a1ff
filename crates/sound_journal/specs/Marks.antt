-- Marks of the used accounts.
use Rattle.std.specs.Prelude.{ℕ, ◌<◌, ◌≡◌, Bool, false, not, List, ℤ, length, get_or}
use Rattle.lists.specs.Tests.{◌is◌}
use Rattle.records.specs.Encoding.{accounts_of}
use Rattle.records.specs.Limits.{slot_count}
use Rattle.rules.specs.Book.{Account, account_no, state_unused}

-- whether account n is used
abbrev pub is_used : List Account → ℕ → Bool
is_used xs n = not ((account_no xs n).state is state_unused)

-- a mark for each number below i tells whether its account is used
pub record MarkedTo (accounts : List ℤ) (count : ℕ) (marks : List Bool) (i : ℕ) : Type 0 where
  pub sized : length marks ≡ slot_count
  pub each : (n : ℕ) → n < i → get_or marks n false ≡ is_used (accounts_of accounts count) n

-- one for each number
abbrev pub Marked : List ℤ → ℕ → List Bool → Type 0
Marked accounts count marks = MarkedTo accounts count marks slot_count
