-- Opening (document 01, "The book"; document 02, No. 1 and No. 6).
use Rattle.std.specs.Prelude.{Bool, ◌&&◌, ℕ, [], ◌∷◌, replicate}
use Rattle.lists.specs.Tests.{◌from◌to◌}
use Rattle.records.specs.Limits.{final_day, most_accounts, most_rows}
use Rattle.rules.specs.Schedule.{Rates, Schedule}
use Rattle.rules.specs.Book.{Book, unused}

-- "Opening takes the first day and the schedule and makes all else 0"; "The opening's list has the opening day as its first day";
-- the book has no holidays but those lent with it (Calls.opened_book)
unfoldable pub opening : ℕ → Schedule → Rates → ℕ → ℕ → Book
opening day s r accounts room = record {
  day = day;
  schedule = s;
  lists = record { first_day = day; rates = r } ∷ [];
  accounts = replicate accounts unused;
  rows = [];
  room = room;
  holidays = [];
}

-- "day 1 to 36,525"
unfoldable pub day_fits : ℕ → Bool
day_fits day = day from 1 to final_day

-- "1 to 256 of them", "1 to 8,192 rows"
unfoldable pub sizes_fit : ℕ → ℕ → Bool
sizes_fit accounts room = accounts from 1 to most_accounts && room from 1 to most_rows
