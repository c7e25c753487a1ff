-- The fees that name a row, counted.
use Rattle.std.specs.Prelude.{ℕ, ◌+◌, ◌-◌, ◌≡◌, Bool, true, cond, List, leb, ℤ, get_or, set}
use Rattle.lists.specs.Tests.{◌implies◌}
use Rattle.lists.specs.Lists.{every}
use Rattle.records.specs.Encoding.{row_at}
use Rattle.rules.specs.Rows.{Row, toll, fee_naming}
use Rattle.rules.specs.Soundness.{fees_fit}
use Rattle.account_sums.specs.Tallies.{Tallied}

-- "a toll of stage k is named by at most k - 1 fees (none at 0)"
unfoldable pub fees_few : List Row → Bool
fees_few rows = every (fees_fit rows) rows

unfoldable pub fee_of : ℕ → Row → ℕ
fee_of n r = cond (fee_naming n r) 1 0

-- a row that c fees name
unfoldable pub fees_within : ℕ → Row → Bool
fees_within c r = toll r implies leb c (r.mark - 1)

-- the fees among the first i rows, by the row that each names, of as many as there is space for; none has too many
pub record FeesCounted (space : ℕ) (t : List ℤ) (counts : List ℕ) (i : ℕ) : Type 0 where
  pub tallied : Tallied fee_of (space + 1) t counts i
  pub within : (k : ℕ) → fees_within (get_or counts (k + 1) 0) (row_at t k) ≡ true

-- one more at n, and whether it is within what the row may have
pub record CountsOne (counts after : List ℕ) (n : ℕ) (named : Row) (b : Bool) : Type 0 where
  pub counted : after ≡ set counts n (get_or counts n 0 + 1)
  pub few : b ≡ fees_within (get_or counts n 0 + 1) named
