-- `stages::fee_due` meets its contract.
use native.Mathlib.Omega.{arith}
use mathlib.Core.Path.{sym, ◌∙◌}
use Rattle.tick_base.proofs.StageLaws.{riser-low}
use Rattle.tick_base.proofs.stages.fee_due.Goals as goal

pub overflow_add-r : goal.overflow_add-r
overflow_add-r c = omega (arith, riser-low _ _ (sym c.is_rising.ensures ∙ c.if-is_rising.true))

pub returns-then-is_rising : goal.returns-then-is_rising
returns-then-is_rising c = c.fee_of_stage.ensures ∙ rw (← c.is_rising.ensures, c.if-is_rising.true)

pub returns : goal.returns
returns c = rw (← c.is_rising.ensures, c.if-is_rising.false)
