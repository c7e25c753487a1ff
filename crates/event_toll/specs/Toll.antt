-- Event 2: the refusals of its own, out of the table of all, in checking order; and the row that it adds.
use Rattle.std.specs.Prelude.{◌&&◌, ◌||◌, ◌+◌, [], ◌∷◌, length, ltb}
use Rattle.records.specs.Numbers.{answer_unclassed, answer_misdated, answer_duplicate, answer_full}
use Rattle.lists.specs.Tests.{◌is◌, Cases}
use Rattle.lists.specs.Lists.{exists}
use Rattle.records.specs.Limits.{latest_days}
use Rattle.rules.specs.Schedule.{class}
use Rattle.records.specs.Codes.{kind_toll}
use Rattle.rules.specs.Rows.{Row, toll, new_row, with_due, with_reference}
use Rattle.rules.specs.Events.{toll_rate}
use Rattle.rules.specs.Book.{Instruction, Book}

-- a passage that is unclassed, misdated or posted before, and no row for it
unfoldable pub toll_refusals : Book → Instruction → Cases
toll_refusals b e =
    (answer_unclassed, class e.c e.d is 0)
    ∷ (answer_misdated, ltb b.day e.b || ltb (e.b + latest_days) b.day)
    ∷ (answer_duplicate, exists (λ r. toll r && r.reference is e.a) b.rows)
    ∷ (answer_full, ltb b.room (length b.rows + 1))
    ∷ []

-- the row that event 2 adds
abbrev pub toll_row : Book → Instruction → Row
toll_row b e = with_reference e.a (with_due (b.day + b.schedule.stage) (new_row kind_toll e.account b.day (toll_rate b.lists e)))
