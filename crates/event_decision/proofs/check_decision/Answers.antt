-- `check_decision` meets its contract: each way through the tests is a case of the table.
use native.Mathlib.Omega.{arith}
use mathlib.Core.Path.{refl, sym, ◌∙◌}
use mathlib.Core.Bool.{true, false}
use Rattle.lists.specs.Tests.{first}
use Rattle.posting.proofs.BookLaws.{row-read-in, rows-lie, room-asked, room-told}
use Rattle.event_decision.proofs.AnswerLaws.{answer-by}
use Rattle.event_decision.proofs.check_decision.Goals as goal

pub rows-requires : goal.rows-requires
rows-requires c = rows-lie _ c.requires.0

pub returns-then-not-is_of : goal.returns-then-not-is_of
unfolding first
returns-then-not-is_of c =
    let found = row-read-in _ c.requires.0 _ _ c.rows.ensures.journal c.rows.ensures.used _ _ c.numbered-r.ensures in
    answer-by _ c.requires.0 _ c.requires.1 c.requires.2 false _ _ (rw (← found) (sym c.is_of.ensures ∙ c.if-not-is_of.true)) refl refl

pub returns-then-not-held_toll : goal.returns-then-not-held_toll
unfolding first
returns-then-not-held_toll c =
    let found = row-read-in _ c.requires.0 _ _ c.rows.ensures.journal c.rows.ensures.used _ _ c.numbered-r.ensures in
    answer-by _ c.requires.0 _ c.requires.1 c.requires.2 true false _ (rw (← found) (sym c.is_of.ensures ∙ c.if-not-is_of.false))
    (rw (← found) (sym c.held_toll.ensures ∙ c.if-not-held_toll.true)) refl

pub has_room-requires : goal.has_room-requires
has_room-requires c = room-asked _ c.requires.0 1 (omega arith)

pub returns-then-e-has_room : goal.returns-then-e-has_room
unfolding first
returns-then-e-has_room c =
    let found = row-read-in _ c.requires.0 _ _ c.rows.ensures.journal c.rows.ensures.used _ _ c.numbered-r.ensures in
    answer-by _ c.requires.0 _ c.requires.1 c.requires.2 true true true (rw (← found) (sym c.is_of.ensures ∙ c.if-not-is_of.false))
    (rw (← found) (sym c.held_toll.ensures ∙ c.if-not-held_toll.false)) (rw (room-told _ c.requires.0 1 _ c.has_room.ensures) c.if-e-has_room.true)

pub returns : goal.returns
unfolding first
returns c =
    let found = row-read-in _ c.requires.0 _ _ c.rows.ensures.journal c.rows.ensures.used _ _ c.numbered-r.ensures in
    answer-by _ c.requires.0 _ c.requires.1 c.requires.2 true true false (rw (← found) (sym c.is_of.ensures ∙ c.if-not-is_of.false))
    (rw (← found) (sym c.held_toll.ensures ∙ c.if-not-held_toll.false)) (rw (room-told _ c.requires.0 1 _ c.has_room.ensures) c.if-e-has_room.false)
