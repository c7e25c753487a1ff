-- `days::days_over` meets its contract.
use native.Mathlib.Omega.{arith}
use borrow.Author.Tests.{ne_eqb}
use Rattle.tick_base.specs.Remainders.{days_over}
use Rattle.tick_base.proofs.StageLaws.{over-before, over-at}
use Rattle.tick_base.proofs.days.days_over.Goals as goal

pub returns-then-x-ne-STATE_PENDING : goal.returns-then-x-ne-STATE_PENDING
unfolding days_over
returns-then-x-ne-STATE_PENDING c = rw (ne_eqb _ _ c.if-x-ne-STATE_PENDING.true)

pub returns-then-today-x : goal.returns-then-today-x
returns-then-today-x c = over-before _ _ c.if-today-x.true

pub returns : goal.returns
returns c = over-at _ _ c.if-x-ne-STATE_PENDING.false (omega arith)
