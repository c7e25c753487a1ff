-- `Index::look_up` meets its contract: the trees have a toll's passage number, the slot has the account's first rows and money.
use native.Mathlib.Omega.{arith}
use mathlib.Core.Path.{◌∙◌}
use Rattle.rules.proofs.TableLaws.{header-length}
use Rattle.posting.proofs.BookLaws.{used-room, used-small}
use Rattle.balances.proofs.TopupLaws.{due-both}
use Rattle.batch_index.proofs.IndexLaws.{flag-of_not, cell-for-duplicate, looks-up-by, slot-money}
use Rattle.batch_index.proofs.Index.look_up.Goals as goal

pub rows-rows-requires : goal.rows-rows-requires
rows-rows-requires c = (omega (arith, header-length _ c.requires.0), used-room _ c.requires.0)

pub cell_for-requires : goal.cell_for-requires
cell_for-requires c = rw (c.rows-rows.ensures.journal, c.rows-rows.ensures.used) (used-small _ c.requires.0, c.requires.1.trees)

pub returns-then-e-eq-EVENT_TOLL : goal.returns-then-e-eq-EVENT_TOLL
returns-then-e-eq-EVENT_TOLL c =
    looks-up-by _ _ c.requires.1 _ _ _ _ c.slot_of-slot.ensures
    (λ k. flag-of_not _ _ c.is_none.ensures ∙ cell-for-duplicate _ c.requires.0 _ _ _ _ c.rows-rows.ensures.used (rw c.rows-rows.ensures.journal at c.cell_for.ensures)) (λ k. absurd (omega (arith, c.if-e-eq-EVENT_TOLL.true)))

pub day-requires : goal.day-requires
day-requires c = omega (arith, header-length _ c.requires.0)

pub returns-then-e-eq-EVENT_TOPUP_RESULT : goal.returns-then-e-eq-EVENT_TOPUP_RESULT
returns-then-e-eq-EVENT_TOPUP_RESULT c =
    looks-up-by _ _ c.requires.1 _ _ _ _ c.slot_of-slot.ensures (λ k. absurd (c.if-e-eq-EVENT_TOLL.false k))
    (λ k. rw (c.may_topup.ensures, c.is_low.ensures)
    (due-both _ c.requires.0 _ _ c.account-x.ensures _ c.day.ensures _
    (rw c.slot_of-slot.ensures (slot-money _ c.requires.0 _ c.requires.1.slots-of _))))

pub returns-else-e-eq-EVENT_TOPUP_RESULT : goal.returns-else-e-eq-EVENT_TOPUP_RESULT
returns-else-e-eq-EVENT_TOPUP_RESULT c =
    looks-up-by _ _ c.requires.1 _ _ _ _ c.slot_of-slot.ensures (λ k. absurd (c.if-e-eq-EVENT_TOLL.false k)) (λ k. absurd (c.if-e-eq-EVENT_TOPUP_RESULT.false k))
