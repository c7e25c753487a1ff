-- `check_payment` meets its contract: each way through the tests is a case of the table.
use native.Mathlib.Omega.{arith}
use mathlib.Core.Path.{refl, ◌∙◌}
use mathlib.Core.Bool.{true, false}
use Rattle.lists.specs.Tests.{first}
use Rattle.posting.proofs.BookLaws.{room-asked, room-told}
use Rattle.event_payment.proofs.PaymentLaws.{answer-by}
use Rattle.event_payment.proofs.check_payment.Goals as goal

pub returns-then-e-x : goal.returns-then-e-x
unfolding first
returns-then-e-x c = answer-by _ _ c.requires.1 c.requires.2 true _ (rw (← c.requires.3) c.if-e-x.true) refl

pub has_room-requires : goal.has_room-requires
has_room-requires c = room-asked _ c.requires.0 1 (omega arith)

pub returns-then-not-has_room : goal.returns-then-not-has_room
unfolding first
returns-then-not-has_room c =
    answer-by _ _ c.requires.1 c.requires.2 false true (rw (← c.requires.3) c.if-e-x.false)
    (room-told _ c.requires.0 1 _ c.has_room.ensures ∙ c.if-not-has_room.true-raw)

pub returns : goal.returns
unfolding first
returns c =
    answer-by _ _ c.requires.1 c.requires.2 false false (rw (← c.requires.3) c.if-e-x.false)
    (room-told _ c.requires.0 1 _ c.has_room.ensures ∙ c.if-not-has_room.false-raw)
