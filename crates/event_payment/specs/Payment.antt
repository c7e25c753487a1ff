-- The refusals of event 3's own, out of the table of all, in checking order.
use Rattle.std.specs.Prelude.{◌&&◌, ◌+◌, [], ◌∷◌, length, leb, ltb}
use Rattle.records.specs.Numbers.{answer_barred, answer_full}
use Rattle.records.specs.Codes.{method_check}
use Rattle.lists.specs.Tests.{◌is◌, Cases}
use Rattle.records.specs.Limits.{barring_returns}
use Rattle.rules.specs.Book.{Instruction, Book, account}

-- a check after three returned ones, and no row for the payment
unfoldable pub payment_refusals : Book → Instruction → Cases
payment_refusals b e =
    (answer_barred, e.b is method_check && leb barring_returns (account b e.account).returned)
    ∷ (answer_full, ltb b.room (length b.rows + 1))
    ∷ []
