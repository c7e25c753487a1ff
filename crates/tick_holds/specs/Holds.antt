-- What the end of holds and the settlement after it leave of the journal.
use Rattle.std.specs.Prelude.{◌≡◌, Bool, true, ◌&&◌, ℕ, ◌+◌, ◌*◌, ◌≤◌, ◌<◌, List, ltb, ℤ, length, get_or}
use Rattle.records.specs.Layout.{day_place, row_width}
use Rattle.records.specs.Encoding.{word, row_at, rows_of, StorableRow}
use Rattle.records.specs.Limits.{slot_count}
use Rattle.rules.specs.Rows.{Row}
use Rattle.rules.specs.Events.{release}
use Rattle.rules.specs.Tick.{hold_ends, before_raising}
use Rattle.rules.specs.Tables.{Tables, rows_used, book_of}
use Rattle.account_sums.specs.Tallies.{Tallied, money_of}
use Rattle.settlement.specs.Settling.{RowsBecome}
use Rattle.tick_rules.specs.Ticks.{settle_those}
use Rattle.tick_base.specs.Remainders.{counted}

-- by account how many holds end at the tick to the next day, and the unused money before it
pub record HoldsCounted (t : Tables) (es ms : List ℕ) : Type 0 where
  pub ends : Tallied (counted (hold_ends (word t.header day_place + 1))) slot_count t.journal es (rows_used t)
  pub money : Tallied money_of slot_count t.journal ms (rows_used t)

-- a row that can be written again when its hold ends
pub record Ending (today : ℕ) (r : Row) : Type 0 where
  pub begun : hold_ends today r ≡ true → r.hold ≤ today
  pub free : hold_ends today r ≡ true → StorableRow (release today r)

-- used rows of which each can
pub record EndingRows (t : List ℤ) (used today : ℕ) : Type 0 where
  pub room : used * row_width ≤ length t
  pub each : (k : ℕ) → k < used → Ending today (row_at t k)

-- an account of which a hold ends, and that has money
abbrev pub pays_by : List ℕ → List ℕ → ℕ → Bool
pays_by ends money a = ltb 0 (get_or ends a 0) && ltb 0 (get_or money a 0)

-- of accounts 1 to n such ones settled
abbrev pub SettledThose : List ℕ → List ℕ → ℕ → List ℤ → List ℤ → ℕ → Type 0
SettledThose ends money n t u used = RowsBecome t u used (settle_those (pays_by ends money) n (rows_of t used))

-- the rows that tolls are raised in
abbrev pub UnraisedRows : Tables → List ℤ → Type 0
UnraisedRows t u = RowsBecome t.journal u (rows_used t) (before_raising (book_of t)).rows
