-- `slots::side_of` meets its contract.
use mathlib.Core.Path.{sym, ◌∙◌}
use Rattle.batch_index.proofs.SideLaws.{source-side, debit-side}
use Rattle.batch_index.proofs.slots.side_of.Goals as goal

pub returns-then-is_source : goal.returns-then-is_source
returns-then-is_source c = sym (source-side _ (sym c.is_source.ensures ∙ c.if-is_source.true))

pub returns-else-is_source : goal.returns-else-is_source
returns-else-is_source c = sym (debit-side _ (sym c.is_source.ensures ∙ c.if-is_source.false))
