-- `end_holds` meets its contract: where the plan has no hold that ends, none does.
use mathlib.Core.Path.{sym, ◌∙◌}
use Rattle.tick_holds.proofs.HoldLaws.{unraised-same}
use Rattle.event_tick.proofs.end_holds.Goals as goal

pub free_and_settle-requires : goal.free_and_settle-requires
free_and_settle-requires c =
    let w = c.requires.2 in
    (c.requires.0, record { ends = w.ends; money = w.sums.moneys })

pub returns-else-plan-clause-rows : goal.returns-else-plan-clause-rows
returns-else-plan-clause-rows c = unraised-same _ c.requires.0 (sym c.requires.1 ∙ c.if-plan.false)
