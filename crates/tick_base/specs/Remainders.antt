-- What of the accounts a tick looks at: what remains of their rows, how many of their rows meet a test, and whether their days are over.
use Rattle.std.specs.Prelude.{◌≡◌, Bool, false, cond, ◌&&◌, ℕ, ◌+◌, List, leb, ℤ}
use Rattle.std.specs.Fn.{Shared}
use Rattle.lists.specs.Tests.{◌is◌}
use Rattle.records.specs.Limits.{closing_days, slot_count}
use Rattle.rules.specs.Rows.{Row, Test, dispute_held}
use Rattle.rules.specs.Book.{Account, state_pending}
use Rattle.account_sums.specs.Tallies.{Tallied, money_of, owed_of}
use Rattle.tick_base.specs.declared.sums.Remains.{Remains}

-- what remains of the first rows' sources and debits
pub record Remainders (t : List ℤ) (s : Remains) (i : ℕ) : Type 0 where
  pub moneys : Tallied money_of slot_count t s.money i
  pub owings : Tallied owed_of slot_count t s.owed i

-- a row's share in the rows of account n that meet a test
unfoldable pub counted : Test → ℕ → Row → ℕ
counted u n r = cond (r.account is n && u r) 1 0

-- code tests a row for u, which no row meets that is not in dispute
pub record TestsHeld {F : Type 0} (g : Shared F (Row × Unit {0}) Bool) (test : F) (u : Test) : Type 0 where
  pub takes : (r : Row) → g.pre test (r, tt)
  pub gives : (r : Row) (b : Bool) → g.post test (r, tt) b → b ≡ u r
  pub held : (r : Row) → (r.dispute ≡ dispute_held → ⊥) → u r ≡ false

-- pending, and "today at least request + 15"
unfoldable pub days_over : ℕ → Account → Bool
days_over today x = x.state is state_pending && leb (x.request + closing_days) today
