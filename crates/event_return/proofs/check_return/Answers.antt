-- `check_return` meets its contract: each way through the tests is a case of the table.
use borrow.Author.Tests.{eq-eqb, ne_eqb}
use native.Mathlib.Omega.{arith}
use mathlib.Core.Path.{refl, sym, ◌∙◌}
use mathlib.Core.Bool.{true, false}
use Rattle.lists.specs.Tests.{first}
use Rattle.posting.proofs.BookLaws.{row-read-in, rows-lie, room-asked, room-told}
use Rattle.event_return.proofs.ReturnLaws.{answer-by}
use Rattle.event_return.proofs.check_return.Goals as goal

pub rows-requires : goal.rows-requires
rows-requires c = rows-lie _ c.requires.0

pub returns-then-not-is_of : goal.returns-then-not-is_of
unfolding first
returns-then-not-is_of c =
    let r = row-read-in _ c.requires.0 _ _ c.rows.ensures.journal c.rows.ensures.used _ _ c.numbered-r.ensures in
    answer-by _ _ c.requires.1 c.requires.2 false _ _ (rw (← r) (sym c.is_of.ensures ∙ c.if-not-is_of.true)) refl refl

pub returns-then-r-ne-METHOD_CHECK : goal.returns-then-r-ne-METHOD_CHECK
unfolding first
returns-then-r-ne-METHOD_CHECK c =
    let r = row-read-in _ c.requires.0 _ _ c.rows.ensures.journal c.rows.ensures.used _ _ c.numbered-r.ensures in
    answer-by _ _ c.requires.1 c.requires.2 true true _ (rw (← r) (sym c.is_of.ensures ∙ c.if-not-is_of.false))
    (rw (← r, ne_eqb _ _ c.if-r-ne-METHOD_CHECK.true)) refl

pub has_room-requires : goal.has_room-requires
has_room-requires c = room-asked _ c.requires.0 2 (omega arith)

pub returns-then-not-has_room : goal.returns-then-not-has_room
unfolding first
returns-then-not-has_room c =
    let r = row-read-in _ c.requires.0 _ _ c.rows.ensures.journal c.rows.ensures.used _ _ c.numbered-r.ensures in
    answer-by _ _ c.requires.1 c.requires.2 true false true (rw (← r) (sym c.is_of.ensures ∙ c.if-not-is_of.false))
    (rw (← r, eq-eqb _ _ c.if-r-ne-METHOD_CHECK.false)) (room-told _ c.requires.0 2 _ c.has_room.ensures ∙ c.if-not-has_room.true-raw)

pub returns : goal.returns
unfolding first
returns c =
    let r = row-read-in _ c.requires.0 _ _ c.rows.ensures.journal c.rows.ensures.used _ _ c.numbered-r.ensures in
    answer-by _ _ c.requires.1 c.requires.2 true false false (rw (← r) (sym c.is_of.ensures ∙ c.if-not-is_of.false))
    (rw (← r, eq-eqb _ _ c.if-r-ne-METHOD_CHECK.false)) (room-told _ c.requires.0 2 _ c.has_room.ensures ∙ c.if-not-has_room.false-raw)
