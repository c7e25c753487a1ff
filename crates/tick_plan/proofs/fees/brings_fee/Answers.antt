-- `fees::brings_fee` meets its contract.
use mathlib.Core.Path.{◌∙◌}
use borrow.Author.Tests.{ne_eqb}
use Rattle.tick_plan.proofs.CountLaws.{fee-brought, fee-not-brought}
use Rattle.tick_plan.proofs.fees.brings_fee.Goals as goal

pub returns-then-due_at-today : goal.returns-then-due_at-today
returns-then-due_at-today c = rw c.read_row.ensures at (fee-brought _ _ _ _ c.fee_due.ensures)

pub returns-else-due_at-today : goal.returns-else-due_at-today
returns-else-due_at-today c = rw (ne_eqb _ _ c.if-due_at-today.false) (fee-not-brought _ _ _ (λ e. c.if-due_at-today.false (c.due_at.ensures ∙ e)))
