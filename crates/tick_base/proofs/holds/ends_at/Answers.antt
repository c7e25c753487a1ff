-- `holds::ends_at` meets its contract: no hold ends of a row that is not in dispute.
use mathlib.Core.Path.{sym, ◌∙◌}
use borrow.Author.Tests.{ne_eqb}
use Rattle.tick_base.proofs.StageLaws.{no_end}
use Rattle.tick_base.proofs.holds.ends_at.Goals as goal

pub returns-else-dispute_at-eq-DISPUTE_HELD : goal.returns-else-dispute_at-eq-DISPUTE_HELD
returns-else-dispute_at-eq-DISPUTE_HELD c =
    ne_eqb _ _ c.if-dispute_at-eq-DISPUTE_HELD.false ∙ sym (no_end _ _ (λ e. c.if-dispute_at-eq-DISPUTE_HELD.false (c.dispute_at.ensures ∙ e)))
