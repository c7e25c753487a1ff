-- What is counted on the tables before a tick: by account in arrays, and in all.
use Rattle.std.specs.Prelude.{◌≡◌, Bool, true, false, not, ◌&&◌, ℕ, ◌+◌, ◌≤◌, ◌<◌, List, leb, ltb, ℤ, length, get_or}
use Rattle.lists.specs.Tests.{◌is◌}
use Rattle.lists.specs.Lists.{exists, one, gather}
use Rattle.records.specs.Layout.{day_place, header_schedule}
use Rattle.records.specs.Encoding.{word, row_at, rows_of, account_at}
use Rattle.rules.specs.BusinessDays.{business_day}
use Rattle.rules.specs.Rows.{Row, blank, held_toll, unsettled}
use Rattle.records.specs.Limits.{most_accounts, most_rows, slot_count}
use Rattle.rules.specs.Book.{Account, Book}
use Rattle.rules.specs.Tick.{hold_ends, fee_row}
use Rattle.rules.specs.Tables.{Tables, rows_used, schedule_from}
use Rattle.tick_rules.specs.Ticks.{NoneCloses, fees_added, refunds_added}
use Rattle.account_sums.specs.Tallies.{Tallied}
use Rattle.tick_base.specs.Remainders.{Remainders, counted, days_over}
use Rattle.tick_plan.specs.Marks.{Marked}
use Rattle.tick_plan.specs.declared.Plan.{Plan}
use Rattle.tick_plan.specs.declared.rows.RowCounts.{RowCounts}

-- a row's share in the tolls of account n that stay held
abbrev pub stays_of : ℕ → ℕ → Row → ℕ
stays_of today = counted (λ r. held_toll r && not (hold_ends today r))

-- a row's share in the holds of account n that end
abbrev pub ends_of : ℕ → ℕ → Row → ℕ
ends_of today = counted (hold_ends today)

-- on a business day an account closes of which so many tolls stay held, that owes and has so much
unfoldable pub close_by : ℕ → ℕ → ℕ → ℕ → Account → Bool
close_by today stays owed money x = days_over today x && stays is 0 && leb owed money

-- account n does, by what its rows come to
unfoldable pub close_at : RowCounts → ℕ → Account → Bool
close_at c n x = close_by c.today (get_or c.stays n 0) (get_or c.remains.owed n 0) (get_or c.remains.money n 0) x

-- none of the first i does
abbrev pub NoneClosesBy : RowCounts → List ℤ → ℕ → Type 0
NoneClosesBy c a i = (k : ℕ) → k < i → close_at c (k + 1) (account_at a k) ≡ false

-- it closes with money left
unfoldable pub refund_by : ℕ → ℕ → ℕ → ℕ → Account → Bool
refund_by today stays owed money x = days_over today x && stays is 0 && ltb owed money

-- account n does, by what its rows come to
unfoldable pub refunds_at : RowCounts → ℕ → Account → Bool
refunds_at c n x = refund_by c.today (get_or c.stays n 0) (get_or c.remains.owed n 0) (get_or c.remains.money n 0) x

-- the row that account n will bring, of whatever content
unfoldable pub refund_at : RowCounts → ℕ → Account → List Row
refund_at c n x = one (refunds_at c n x) blank

-- no toll is held that is settled
abbrev pub HeldOpen : List ℤ → ℕ → Type 0
HeldOpen t used = (k : ℕ) → k < used → held_toll (row_at t k) ≡ true → unsettled (row_at t k) ≡ true

-- what the first i rows come to, counted for this day
pub record RowsCounted (h t : List ℤ) (today : ℕ) (c : RowCounts) (i : ℕ) : Type 0 where
  pub day : c.today ≡ today
  pub sums : Remainders t c.remains i
  pub held : Tallied (stays_of today) slot_count t c.stays i
  pub ends : Tallied (ends_of today) slot_count t c.ends i
  pub fees : c.fees ≡ length (gather (fee_row (schedule_from h header_schedule) today) (rows_of t i))
  pub few : c.fees ≤ i
  pub ending : c.ending ≡ exists (hold_ends today) (rows_of t i)
  pub marks : Marked today t c.marks i

-- what the used rows of tables come to, counted for the next day
abbrev pub TablesCounted : Tables → RowCounts → Type 0
TablesCounted t c = RowsCounted t.header t.journal (word t.header day_place + 1) c (rows_used t)

-- what the plan says of the tick of a book
pub record Planned (b : Book) (p : Plan) : Type 0 where
  pub added : p.added ≡ fees_added b + refunds_added b
  pub few : p.added ≤ most_rows + most_accounts
  pub ending : p.ending ≡ exists (hold_ends (b.day + 1)) b.rows
  pub closing : p.closing ≡ false → NoneCloses b
  pub business : p.closing ≡ true → business_day b.holidays (b.day + 1) ≡ true

-- the plan is right about whether a hold ends
abbrev pub PlansHolds : Book → Plan → Type 0
PlansHolds b p = p.ending ≡ exists (hold_ends (b.day + 1)) b.rows
