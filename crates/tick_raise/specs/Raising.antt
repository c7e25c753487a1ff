-- One turn of the fourth step of a tick: row i is raised where it rises, and its fee row is added.
use Rattle.std.specs.Prelude.{◌≡◌, Bool, ℕ, ◌+◌, ◌*◌, ◌≤◌, ◌<◌, List, ◌++◌, length, set, ℤ}
use Rattle.records.specs.Layout.{header_width, used_place, header_schedule, row_width}
use Rattle.records.specs.Encoding.{word, row_at, StorableRow}
use Rattle.rules.specs.Schedule.{Schedule, stage_fee}
use Rattle.rules.specs.Rows.{Row, kind_fee, new_row, with_reference}
use Rattle.rules.specs.Tick.{rises, raise, fee_row}
use Rattle.rules.specs.Tables.{Tables, schedule_from}
use Rattle.posting.specs.Written.{UsedRows}

-- the header's schedule
abbrev pub schedule_of : List ℤ → Schedule
schedule_of h = schedule_from h header_schedule

-- the fee, 0 or not, of row i for the stage after its own
abbrev pub stage_fee_row : Schedule → ℕ → ℕ → Row → Row
stage_fee_row s today i r = with_reference (i + 1) (new_row kind_fee r.account today (stage_fee s (r.mark + 1)))

-- row i can be written raised, and its fee row added
pub record Raisable (h j : List ℤ) (i today : ℕ) : Type 0 where
  pub header : length h ≡ header_width
  pub used : i < word h used_place
  pub room : (word h used_place + length (fee_row (schedule_of h) today (i + 1) (row_at j i))) * row_width ≤ length j
  pub row : StorableRow (raise (schedule_of h) today (row_at j i))
  pub fee : StorableRow (stage_fee_row (schedule_of h) today i (row_at j i))

-- of whatever rows were used, row i is raised, and its fee row is added; v is whether it rises
pub record RowRaised (h h' j j' : List ℤ) (i today : ℕ) (v : Bool) : Type 0 where
  pub told : v ≡ rises today (row_at j i)
  pub header-size : length h' ≡ length h
  pub journal-size : length j' ≡ length j
  pub rows : (t : Tables) (rows : List Row) → UsedRows t h j rows
      → UsedRows t h' j' (set rows i (raise (schedule_of h) today (row_at j i)) ++ fee_row (schedule_of h) today (i + 1) (row_at j i))
