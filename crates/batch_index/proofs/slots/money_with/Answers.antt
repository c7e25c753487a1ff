-- `slots::money_with` meets its contract: the row is of the account itself.
use borrow.Author.Tests.{eq-eqb}
use mathlib.Core.Path.{refl, sym, ◌∙◌}
use Rattle.batch_index.specs.Money.{money_with}
use Rattle.batch_index.proofs.slots.money_with.Goals as goal

pub returns-then-is_source : goal.returns-then-is_source
unfolding money_with
returns-then-is_source c =
    rw (eq-eqb c.args.r.account _ refl, c.remaining_of.ensures, sym c.is_source.ensures ∙ c.if-is_source.true)

pub returns-else-is_source : goal.returns-else-is_source
unfolding money_with
returns-else-is_source c =
    rw (eq-eqb c.args.r.account _ refl, sym c.is_source.ensures ∙ c.if-is_source.false) c.saturating_sub.ensures
