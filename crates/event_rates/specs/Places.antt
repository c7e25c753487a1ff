-- Where the rates of a header's lists stand.
use Rattle.std.specs.Prelude.{◌≡◌, ℕ, suc, ◌+◌, ◌≤◌, List, ℤ}
use Rattle.records.specs.Layout.{header_width, rates_width}
use Rattle.rules.specs.RateLists.{list_no}
use Rattle.rules.specs.Tables.{rates_from, lists_used, lists_in}

-- in any header in which the list after n others is used, its rates start at place p
pub record RatesAt (n p : ℕ) : Type 0 where
  pub within : p + rates_width ≤ header_width
  pub rates : (h : List ℤ) → n ≤ lists_used h → rates_from h p ≡ (list_no (lists_in h) (suc n)).rates
