-- Event 9, the day tick (document 01, "Events"), in its five steps.
use Rattle.std.specs.Prelude.{Bool, not, cond, ◌&&◌, ℕ, ◌+◌, List, ◌++◌, map, leb, ltb}
use Rattle.records.specs.AccountOperations.{closed}
use Rattle.lists.specs.Tests.{◌is◌}
use Rattle.lists.specs.Lists.{exists, count, one, gather, change}
use Rattle.records.specs.Limits.{hold_days, closing_days}
use Rattle.rules.specs.Schedule.{Schedule, stage_fee}
use Rattle.rules.specs.BusinessDays.{business_day}
use Rattle.rules.specs.Rows.{Row, kind_fee, kind_refund, last_stage, Test, new_row, with_mark, with_due, with_reference, toll, held_toll, unsettled, source, debit_of, settle_whole}
use Rattle.rules.specs.Settlement.{money}
use Rattle.rules.specs.Book.{Account, state_pending, Book, with_day, with_accounts, with_rows, account, settled}
use Rattle.rules.specs.Events.{Change, release}

-- ---- "the day rises by 1"

-- the book a day later
unfoldable pub next_day : Book → Book
next_day b = with_day (b.day + 1) b

-- ---- "holds begun 30 days ago end as by verdict 0"

-- a held toll whose hold start is 30 days before today
unfoldable pub hold_ends : ℕ → Test
hold_ends today r = held_toll r && r.hold + hold_days is today

-- such a toll is released
unfoldable pub end_hold : ℕ → Row → Row
end_hold today r = cond (hold_ends today r) (release today r) r

-- all of them are
unfoldable pub end_holds : Book → Book
end_holds b = with_rows (map (end_hold b.day) b.rows) b

-- ---- "settlement": the book in which tolls are about to be raised

unfoldable pub before_raising : Book → Book
before_raising b = settled (end_holds (next_day b))

-- ---- "each unheld unsettled toll under stage 4 due today, in row order, rises a stage, its due day by L"

-- such a toll
unfoldable pub rises : ℕ → Test
rises today r = toll r && not (held_toll r) && unsettled r && ltb r.mark last_stage && r.due is today

-- one stage up
unfoldable pub raise : Schedule → ℕ → Row → Row
raise s today r = cond (rises today r) (with_due (r.due + s.stage) (with_mark (r.mark + 1) r)) r

-- "and from stage 2 a nonzero fee row naming it is added": n is the toll's row number
unfoldable pub fee_row : Schedule → ℕ → ℕ → Row → List Row
fee_row s today n r =
    one (rises today r && ltb 0 (stage_fee s (r.mark + 1))) (with_reference n (new_row kind_fee r.account today (stage_fee s (r.mark + 1))))

-- tolls raised, and their fee rows added in row order
unfoldable pub raise_tolls : Book → Book
raise_tolls b = with_rows (map (raise b.schedule b.day) b.rows ++ gather (fee_row b.schedule b.day) b.rows) b

-- the answer's "tolls raised"
unfoldable pub raised_by : Book → ℕ
raised_by b = count (rises (before_raising b).day) (before_raising b).rows

-- ---- "by account number, each pending account with today at least request + 15 and no unsettled debit, held ones counted, closes"
-- (closing one account changes no row of another, so each is judged on the book before the closings)

-- such an account, on a day that is one: "A pending account closes on the first business day that is at least request + 15 and finds no
-- unsettled debit" (document 02, No. 6)
unfoldable pub closes : Book → ℕ → Account → Bool
closes b n x =
    x.state is state_pending && business_day b.holidays b.day && leb (x.request + closing_days) b.day
    && not (exists (λ r. debit_of n r && unsettled r) b.rows)

-- the account after the closings
unfoldable pub close_if : Book → ℕ → Account → Account
close_if b n x = cond (closes b n x) (closed x) x

-- "any unused money leaving as one refund row", which "is settled whole"
unfoldable pub refund_row : Book → ℕ → Account → List Row
refund_row b n x = one (closes b n x && ltb 0 (money n b.rows)) (settle_whole (new_row kind_refund n b.day (money n b.rows)))

-- its sources are used whole
unfoldable pub use_up : Book → Row → Row
use_up b r = cond (source r && closes b r.account (account b r.account)) (settle_whole r) r

-- the accounts closed, their money used, the refund rows added by account number
unfoldable pub close_accounts : Book → Book
close_accounts b =
    with_accounts (change (close_if b) b.accounts)
    (with_rows (map (use_up b) b.rows ++ gather (refund_row b) b.accounts) b)

-- ---- the tick

-- the five steps
unfoldable pub tick : Change
tick b e = close_accounts (raise_tolls (before_raising b))
