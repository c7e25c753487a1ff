-- An account's unused money from event to event of a batch: how the rows that an event adds change it.
use Rattle.std.specs.Prelude.{ℕ, ◌+◌, ◌-◌, cond, List, [], ◌∷◌}
use Rattle.lists.specs.Tests.{◌is◌}
use Rattle.rules.specs.Rows.{Row, source, remaining}

-- the unused money m of account a once row r is added: what is left of one of its sources joins it, one of its debits takes its amount
unfoldable pub money_with : ℕ → ℕ → Row → ℕ
money_with a m r = cond (r.account is a) (cond (source r) (m + remaining r) (m - r.amount)) m

-- .. once each of these rows is added, in their order
unfoldable pub money_after : ℕ → ℕ → List Row → ℕ
money_after a m [] = m
money_after a m (r ∷ rs) = money_after a (money_with a m r) rs
