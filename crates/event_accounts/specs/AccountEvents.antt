-- The refusals of events 8's, 11's and 12's own, out of the table of all, in checking order; event 1 has none.
use Rattle.std.specs.Prelude.{not, ◌||◌, [], ◌∷◌}
use Rattle.records.specs.Numbers.{answer_untimely, answer_reserve, answer_successor}
use Rattle.lists.specs.Tests.{◌is◌, Cases}
use Rattle.rules.specs.Book.{Instruction, state_pending, state_closed, Book, account}
use Rattle.rules.specs.Successors.{other_used}

-- an account that is pending already
unfoldable pub request_refusals : Book → Instruction → Cases
request_refusals b e = (answer_untimely, (account b e.account).state is state_pending) ∷ []

-- an account without a primary; a reserve that is as the event would have it already
unfoldable pub reserve_refusals : Book → Instruction → Cases
reserve_refusals b e =
    (answer_untimely, (account b e.account).topup is 0) ∷ (answer_reserve, (account b e.account).reserve is e.a) ∷ []

-- an account that is not closed, or a successor that it may not have
unfoldable pub successor_refusals : Book → Instruction → Cases
successor_refusals b e =
    (answer_successor, not ((account b e.account).state is state_closed) || not (other_used b.accounts e.account e.a)) ∷ []
