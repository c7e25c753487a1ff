-- `stages::fee_of_stage` meets its contract: the fees stand stage by stage.
use native.Mathlib.Omega.{arith}
use mathlib.Core.Path.{◌∙◌}
use Rattle.tick_base.proofs.StageLaws.{fee-low, fee-high, fee-place}
use Rattle.tick_base.proofs.stages.fee_of_stage.Goals as goal

pub returns-then-stage-lt2 : goal.returns-then-stage-lt2
returns-then-stage-lt2 c = fee-low _ _ c.if-stage-lt2.true

pub returns-then-stage-gt-LAST_STAGE : goal.returns-then-stage-gt-LAST_STAGE
returns-then-stage-gt-LAST_STAGE c = fee-high _ _ c.if-stage-gt-LAST_STAGE.true

pub returns : goal.returns
returns c = c.get.ensures ∙ fee-place _ _ (omega arith) (omega arith)
