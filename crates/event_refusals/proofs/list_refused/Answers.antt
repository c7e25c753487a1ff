-- `list_refused` meets its contract: another kind is not refused by it; of event 10 it is the test on the lists.
use borrow.Author.Tests.{eq-eqb, ne_eqb}
use native.Mathlib.Omega.{arith}
use Rattle.rules.specs.Refusals.{list_refused}
use Rattle.table_lists.proofs.UsedLaws.{used-few}
use Rattle.event_refusals.proofs.AdmissionLaws.{lists-counted}
use Rattle.event_refusals.proofs.list_refused.Goals as goal

pub returns-then-e-ne-EVENT_RATE_LIST : goal.returns-then-e-ne-EVENT_RATE_LIST
unfolding list_refused
returns-then-e-ne-EVENT_RATE_LIST c b q = rw (ne_eqb _ _ c.if-e-ne-EVENT_RATE_LIST.true)

pub overflow_add-result : goal.overflow_add-result
overflow_add-result c = omega (arith, used-few c.args.h.words.now, c.lists_used-used.ensures)

pub returns : goal.returns
unfolding list_refused
returns c b q =
    rw (eq-eqb _ _ c.if-e-ne-EVENT_RATE_LIST.false, q, ← c.last_day.ensures, lists-counted _, ← c.lists_used-used.ensures)
