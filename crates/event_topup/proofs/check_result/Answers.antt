-- `check_result` meets its contract: each way through the tests is a case of the table.
use borrow.Author.Tests.{not-true, not-false}
use native.Mathlib.Omega.{arith}
use mathlib.Core.Path.{refl, sym, ◌∙◌}
use mathlib.Core.Bool.{true, false}
use Rattle.lists.specs.Tests.{first}
use Rattle.posting.proofs.BookLaws.{room-asked, room-told}
use Rattle.event_topup.proofs.ResultLaws.{result_by}
use Rattle.event_topup.proofs.check_result.Goals as goal

pub returns-then-not-k : goal.returns-then-not-k
unfolding first
returns-then-not-k c =
    result_by _ c.requires.0 _ c.requires.1 c.requires.3 false _ (sym (c.requires.2.due c.requires.1) ∙ not-true _ c.if-not-k.true) refl

pub has_room-requires : goal.has_room-requires
has_room-requires c = room-asked _ c.requires.0 1 (omega arith)

pub returns-then-e-has_room : goal.returns-then-e-has_room
unfolding first
returns-then-e-has_room c =
    result_by _ c.requires.0 _ c.requires.1 c.requires.3 true true (sym (c.requires.2.due c.requires.1) ∙ not-false _ c.if-not-k.false)
    (rw (room-told _ c.requires.0 1 _ c.has_room.ensures) c.if-e-has_room.true)

pub returns : goal.returns
unfolding first
returns c =
    result_by _ c.requires.0 _ c.requires.1 c.requires.3 true false (sym (c.requires.2.due c.requires.1) ∙ not-false _ c.if-not-k.false)
    (rw (room-told _ c.requires.0 1 _ c.has_room.ensures) c.if-e-has_room.false)
