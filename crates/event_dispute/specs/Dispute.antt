-- The refusals of event 5's own, out of the table of all, in checking order.
use Rattle.std.specs.Prelude.{not, ◌&&◌, ◌||◌, [], ◌∷◌}
use Rattle.records.specs.Numbers.{answer_no_row, answer_untimely}
use Rattle.records.specs.Codes.{dispute_never}
use Rattle.lists.specs.Tests.{◌is◌, Cases}
use Rattle.rules.specs.Rows.{toll, unsettled}
use Rattle.rules.specs.Book.{Instruction, Book, row}

-- no toll row of the account, and one that is settled whole or was disputed before
unfoldable pub dispute_refusals : Book → Instruction → Cases
dispute_refusals b e =
    (answer_no_row, not (toll (row b e.a) && (row b e.a).account is e.account))
    ∷ (answer_untimely, not (unsettled (row b e.a)) || not ((row b e.a).dispute is dispute_never))
    ∷ []
