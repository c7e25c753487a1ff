-- `plan_tick` meets its contract: the sums and counts are those of the book.
use native.Mathlib.Omega.{arith}
use borrow.Author.Tests.{not-true, not-false}
use Rattle.rules.proofs.HolidayTables.{sound-holidays}
use Rattle.lent.specs.Lent.{lent}
use Rattle.posting.proofs.BookLaws.{count_small}
use Rattle.tick_plan.proofs.CountLaws.{quiet-planned, added-few, tick-planned}
use Rattle.tick_plan.proofs.plan_tick.Goals as goal

pub any_closes-requires : goal.any_closes-requires
any_closes-requires c = (count_small _ c.requires.0, sound-holidays c.args.holidays.now (lent c.args.t) c.requires.0)

pub returns-then-not-any_closes : goal.returns-then-not-any_closes
returns-then-not-any_closes c =
    quiet-planned _ c.requires.0 _ c.requires.1 (c.any_closes.ensures.none (not-true _ c.if-not-any_closes.true-raw))

pub refunds_added-refunds-requires : goal.refunds_added-refunds-requires
refunds_added-refunds-requires c = count_small _ c.requires.0

pub overflow_add-result : goal.overflow_add-result
overflow_add-result c =
    omega (
      arith,
      added-few _ c.requires.0 _ c.requires.1
          (c.any_closes.ensures.business (not-false _ c.if-not-any_closes.false-raw)) _ c.refunds_added-refunds.ensures.0 c.refunds_added-refunds.ensures.1,
    )

pub returns : goal.returns
returns c =
    tick-planned _ c.requires.0 _ c.requires.1
    (c.any_closes.ensures.business (not-false _ c.if-not-any_closes.false-raw)) _
    c.refunds_added-refunds.ensures.0 c.refunds_added-refunds.ensures.1
