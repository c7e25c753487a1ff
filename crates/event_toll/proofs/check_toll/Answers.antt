-- `check_toll` meets its contract: each way through the tests is a case of the table.
use borrow.Author.Tests.{eq-eqb}
use native.Mathlib.Omega.{arith}
use mathlib.Core.Path.{◌≡◌, refl, sym, ap, ◌∙◌}
use mathlib.Core.Bool.{true, false}
use Rattle.lists.specs.Tests.{◌is◌, first}
use Rattle.rules.specs.Schedule.{class}
use Rattle.rules.proofs.TableLaws.{header-length}
use Rattle.posting.proofs.BookLaws.{day-read, room-asked, room-told}
use Rattle.event_rates.proofs.RateLaws.{class_number-not_0}
use Rattle.event_toll.proofs.TollLaws.{answer-by, day-within, toll-formed}
use Rattle.event_toll.proofs.check_toll.Goals as goal
use Rattle.event_toll.proofs.check_toll.Goals.{In-Some}

-- the vehicle has a class
classed : (c : In-Some) → class c.args.e.c c.args.e.d is 0 ≡ false
classed c = ap (λ n. n is 0) (sym c.in-Some.ensures) ∙ class_number-not_0 c.in-Some.class

pub day-today-requires : goal.day-today-requires
day-today-requires c = omega (arith, header-length _ c.requires.0)

pub has_room-requires : goal.has_room-requires
has_room-requires c = room-asked _ c.requires.0 1 (omega arith)

pub returns-in_default-clause-number : goal.returns-in_default-clause-number
unfolding first
returns-in_default-clause-number c =
    answer-by _ _ c.requires.1 c.requires.3 true _ _ _ (eq-eqb _ _ (sym c.in_default.ensures)) refl refl refl

pub overflow_add-e : goal.overflow_add-e
overflow_add-e c =
    omega (arith, day-within _ (toll-formed _ _ c.requires.1 c.requires.3))

pub returns-then-today-e-clause-number : goal.returns-then-today-e-clause-number
unfolding first
returns-then-today-e-clause-number c =
    answer-by _ _ c.requires.1 c.requires.3 false true _ _ (classed (goal.at.returns-then-today-e-clause-number c).In-Some)
    (rw (← day-read _ c.requires.0, ← c.day-today.ensures) c.if-today-e.true) refl refl

pub returns-then-k-clause-number : goal.returns-then-k-clause-number
unfolding first
returns-then-k-clause-number c =
    answer-by _ _ c.requires.1 c.requires.3 false false true _ (classed (goal.at.returns-then-k-clause-number c).In-Some)
    (rw (← day-read _ c.requires.0, ← c.day-today.ensures) c.if-today-e.false) (sym (c.requires.2.duplicate c.requires.1) ∙ c.if-k.true) refl

pub returns-then-not-has_room-clause-number : goal.returns-then-not-has_room-clause-number
unfolding first
returns-then-not-has_room-clause-number c =
    answer-by _ _ c.requires.1 c.requires.3 false false false true (classed (goal.at.returns-then-not-has_room-clause-number c).In-Some)
    (rw (← day-read _ c.requires.0, ← c.day-today.ensures) c.if-today-e.false) (sym (c.requires.2.duplicate c.requires.1) ∙ c.if-k.false)
    (room-told _ c.requires.0 1 _ c.has_room.ensures ∙ c.if-not-has_room.true-raw)

pub returns-clause-number : goal.returns-clause-number
unfolding first
returns-clause-number c =
    answer-by _ _ c.requires.1 c.requires.3 false false false false (classed (goal.at.returns-clause-number c).In-Some)
    (rw (← day-read _ c.requires.0, ← c.day-today.ensures) c.if-today-e.false) (sym (c.requires.2.duplicate c.requires.1) ∙ c.if-k.false)
    (room-told _ c.requires.0 1 _ c.has_room.ensures ∙ c.if-not-has_room.false-raw)
