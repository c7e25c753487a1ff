-- `check_reserve` meets its contract: each way through the tests is a case of the table.
use borrow.Author.Tests.{eq-eqb, ne_eqb}
use mathlib.Core.Path.{refl}
use mathlib.Core.Bool.{true, false}
use Rattle.lists.specs.Tests.{first}
use Rattle.event_accounts.proofs.ReserveLaws.{reserve-by}
use Rattle.event_accounts.proofs.check_reserve.Goals as goal

pub returns-then-x-eq0 : goal.returns-then-x-eq0
unfolding first
returns-then-x-eq0 c b q = reserve-by b _ true _ (rw (← q) (eq-eqb _ _ c.if-x-eq0.true)) refl

pub returns-then-x-e : goal.returns-then-x-e
unfolding first
returns-then-x-e c b q = reserve-by b _ false true (rw (← q) (ne_eqb _ _ c.if-x-eq0.false)) (rw (← q) (eq-eqb _ _ c.if-x-e.true))

pub returns : goal.returns
unfolding first
returns c b q = reserve-by b _ false false (rw (← q) (ne_eqb _ _ c.if-x-eq0.false)) (rw (← q) (ne_eqb _ _ c.if-x-e.false))
