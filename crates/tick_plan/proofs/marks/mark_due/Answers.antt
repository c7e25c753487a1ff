-- `marks::mark_due` meets its contract: a row that is not due does not rise.
use mathlib.Core.Path.{◌∙◌}
use Rattle.tick_plan.proofs.MarkLaws.{marked-later, marked-more}
use Rattle.tick_plan.proofs.marks.mark_due.Goals as goal

pub returns-then-due_at-today : goal.returns-then-due_at-today
returns-then-due_at-today c = marked-more _ _ _ _ c.requires.2 c.requires.1

pub returns-else-due_at-today : goal.returns-else-due_at-today
returns-else-due_at-today c = marked-later _ _ _ _ c.requires.2 (λ e. c.if-due_at-today.false (c.due_at.ensures ∙ e))
