-- A day tick in the terms in which code carries it out.
use Rattle.std.specs.Prelude.{◌≡◌, Bool, false, not, cond, ◌&&◌, ℕ, zero, suc, ◌+◌, ◌<◌, List, length, get_or, leb, ltb}
use Rattle.lists.specs.Tests.{◌is◌}
use Rattle.lists.specs.Lists.{exists, one, gather}
use Rattle.records.specs.Limits.{closing_days}
use Rattle.rules.specs.BusinessDays.{business_day}
use Rattle.rules.specs.Rows.{Row, Test, blank, held_toll}
use Rattle.rules.specs.Settlement.{money, settle, owed}
use Rattle.rules.specs.Book.{Account, state_pending, unused, Book}
use Rattle.rules.specs.Tick.{hold_ends, fee_row}

-- ---- the settlement after holds have ended

-- a hold of account n ends today
unfoldable pub freed : ℕ → List Row → ℕ → Bool
freed today rows n = exists (λ r. r.account is n && hold_ends today r) rows

-- and the account has unused money
unfoldable pub freed_with_money : ℕ → List Row → ℕ → Bool
freed_with_money today rows n = freed today rows n && ltb 0 (money n rows)

-- of accounts 1 to n those settled that the test holds of
unfoldable pub settle_those : (ℕ → Bool) → ℕ → List Row → List Row
settle_those t zero rows = rows
settle_those t (suc n) rows = cond (t (suc n)) (settle (suc n) (settle_those t n rows)) (settle_those t n rows)

-- ---- the rows that a tick adds, told from the book before it

-- a toll of account n whose hold goes on
unfoldable pub stays_held : ℕ → ℕ → Test
stays_held today n r = r.account is n && (held_toll r && not (hold_ends today r))

-- account n will close with money left: its days are over, none of its tolls stays held, and its money exceeds what it owes
unfoldable pub will_refund : Book → ℕ → Account → Bool
will_refund b n x =
    x.state is state_pending && business_day b.holidays (b.day + 1) && leb (x.request + closing_days) (b.day + 1)
    && not (exists (stays_held (b.day + 1) n) b.rows) && ltb (owed n b.rows) (money n b.rows)

-- account n will close, with money left or not
unfoldable pub will_close : Book → ℕ → Account → Bool
will_close b n x =
    x.state is state_pending && business_day b.holidays (b.day + 1) && leb (x.request + closing_days) (b.day + 1)
    && not (exists (stays_held (b.day + 1) n) b.rows) && leb (owed n b.rows) (money n b.rows)

-- no account will
abbrev pub NoneCloses : Book → Type 0
NoneCloses b = (k : ℕ) → k < length b.accounts → will_close b (suc k) (get_or b.accounts k unused) ≡ false

-- the fees of the tolls that will rise
unfoldable pub fees_added : Book → ℕ
fees_added b = length (gather (fee_row b.schedule (b.day + 1)) b.rows)

-- the refunds
unfoldable pub refunds_added : Book → ℕ
refunds_added b = length (gather (λ n x. one (will_refund b n x) blank) b.accounts)
