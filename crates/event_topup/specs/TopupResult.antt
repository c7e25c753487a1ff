-- The refusals of event 7's own, out of the table of all, in checking order; and a top-up that is to be paid.
use Rattle.std.specs.Prelude.{◌≡◌, true, not, ◌&&◌, ◌+◌, [], ◌∷◌, length, ltb}
use Rattle.records.specs.Numbers.{answer_untimely, answer_full}
use Rattle.records.specs.Codes.{code_yes, event_topup_result}
use Rattle.lists.specs.Tests.{◌is◌, Cases}
use Rattle.rules.specs.Book.{Instruction, Book, topup_due}
use Rattle.rules.specs.Refusals.{answer_number}
use Rattle.rules.specs.Tables.{Tables, book_of, sound_tables}

-- a top-up that is not due, and no row for a paid one: a declined one adds none
unfoldable pub result_refusals : Book → Instruction → Cases
result_refusals b e =
    (answer_untimely, not (topup_due b e.account))
    ∷ (answer_full, e.b is code_yes && ltb b.room (length b.rows + 1))
    ∷ []

-- an event 7 that sound tables accept, its result "paid"
pub record PaidResult (t : Tables) (e : Instruction) : Type 0 where
  pub sound : sound_tables t ≡ true
  pub kind : e.kind ≡ event_topup_result
  pub accepted : 0 ≡ answer_number (book_of t) e
  pub paid : e.b ≡ code_yes
