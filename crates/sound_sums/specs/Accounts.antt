-- The clauses on accounts in the groups in which the code tests them.
use Rattle.std.specs.Prelude.{Bool, ◌&&◌, ◌||◌, ℕ, List, [], ◌∷◌, eqb, get_or}
use Rattle.lists.specs.Tests.{◌is◌, ◌implies◌, all_of}
use Rattle.lists.specs.Lists.{count, every}
use Rattle.rules.specs.Rows.{Row}
use Rattle.rules.specs.Settlement.{money, debt, used, paid, owed}
use Rattle.rules.specs.Book.{Account, state_closed}
use Rattle.rules.specs.Soundness.{successor_fits, returned_of}
use Rattle.sound_accounts.specs.Alone.{account_alone}
use Rattle.account_sums.specs.declared.Sums.{Sums}
use Rattle.account_sums.specs.AccountSums.{no_sums}

-- an account and the sums of its rows
unfoldable pub sums_agree : Account → Sums → Bool
sums_agree x s = all_of
    (eqb x.returned s.returned ∷ eqb s.drawn s.paid ∷ (s.money is 0 || s.debt is 0)
    ∷ (x.state is state_closed implies s.money is 0 && s.owed is 0) ∷ [])

-- account number n by itself, among the others, and against its sums
unfoldable pub account_passes : List Account → ℕ → ℕ → Sums → Account → Bool
account_passes xs today n s x = account_alone today x && (successor_fits xs n x && sums_agree x s)

-- the sums of account n, in their array and by the definitions
abbrev pub sums_at : List Sums → ℕ → Sums
sums_at sums n = get_or sums n no_sums

unfoldable pub sums_of : List Row → ℕ → Sums
sums_of rows n = record {
  returned = count (returned_of n) rows;
  drawn = used n rows;
  money = money n rows;
  paid = paid n rows;
  debt = debt n rows;
  owed = owed n rows;
}

unfoldable pub all_agree : ℕ → (ℕ → Sums) → List Account → Bool
all_agree today sums xs = every (λ n x. account_passes xs today n (sums n) x) xs

unfoldable pub accounts_stand : ℕ → List Row → List Account → Bool
accounts_stand today rows xs = all_agree today (sums_of rows) xs
