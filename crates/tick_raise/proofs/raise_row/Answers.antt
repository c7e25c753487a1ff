-- `raise_row` meets its contract.
use borrow.Author.Rules.{rules}
use mathlib.Core.Path.{refl, sym, ◌∙◌}
use Rattle.tick_base.proofs.StageLaws.{not-due}
use Rattle.tick_raise.proofs.RaisedLaws.{raised-none, up-storable, raised-alone, fee-room, fee-storable, raised-fee}
use Rattle.tick_raise.proofs.raise_row.Goals as goal

pub returns-then-due_at-today : goal.returns-then-due_at-today
returns-then-due_at-today c = raised-none _ _ _ _ c.requires _ refl (not-due _ _ (λ e. c.if-due_at-today.true (c.due_at.ensures ∙ e)))

pub returns-then-not-is_rising : goal.returns-then-not-is_rising
returns-then-not-is_rising c =
    raised-none _ _ _ _ c.requires _ c.read_row-r.ensures (sym c.is_rising.ensures ∙ c.if-not-is_rising.true)

pub raised-up-requires : goal.raised-up-requires
raised-up-requires c =
    let w = up-storable _ _ _ _ c.requires _ c.read_row-r.ensures (sym c.is_rising.ensures ∙ c.if-not-is_rising.false) _ c.get.ensures in
    (w.mark, w.due)

pub write_row-requires : goal.write_row-requires
write_row-requires c =
    let w = up-storable _ _ _ _ c.requires _ c.read_row-r.ensures (sym c.is_rising.ensures ∙ c.if-not-is_rising.false) _ c.get.ensures in
    (search rules, rw c.raised-up.ensures w)

pub returns-else-fee-ne0 : goal.returns-else-fee-ne0
returns-else-fee-ne0 c =
    raised-alone _ _ _ _ c.requires _ c.read_row-r.ensures (sym c.is_rising.ensures ∙ c.if-not-is_rising.false) _ c.get.ensures _ c.raised-up.ensures _ c.write_row.ensures _ c.fee_of_stage-fee.ensures c.if-fee-ne0.false

pub add_row-requires : goal.add_row-requires
add_row-requires c =
    let f = c.fee_of_stage-fee.ensures in
    let z = c.if-fee-ne0.true in
    (fee-room _ _ _ _ c.requires _ c.read_row-r.ensures (sym c.is_rising.ensures ∙ c.if-not-is_rising.false) _ c.get.ensures _ c.raised-up.ensures _ c.write_row.ensures _ f z, rw c.row_naming-row.ensures (fee-storable _ _ _ _ c.requires _ c.read_row-r.ensures (sym c.is_rising.ensures ∙ c.if-not-is_rising.false) _ c.get.ensures _ c.raised-up.ensures _ c.write_row.ensures _ f z))

pub returns-then-fee-ne0 : goal.returns-then-fee-ne0
returns-then-fee-ne0 c =
    raised-fee _ _ _ _ c.requires _ c.read_row-r.ensures (sym c.is_rising.ensures ∙ c.if-not-is_rising.false) _ c.get.ensures _ c.raised-up.ensures _ c.write_row.ensures _ c.fee_of_stage-fee.ensures c.if-fee-ne0.true _ _ (rw c.row_naming-row.ensures at c.add_row.ensures)
