-- `fees::settle_fee` meets its contract.
use borrow.Author.Tests.{not-true, not-false}
use mathlib.Core.Path.{sym, ◌∙◌}
use Rattle.records.specs.Encoding.{row_at}
use Rattle.tables.proofs.ChangeLaws.{unchanged}
use Rattle.event_decision.proofs.FeeLaws.{no-fee, fee-whole}
use Rattle.event_decision.proofs.fees.settle_fee.Goals as goal

pub returns-then-not-is_fee_of : goal.returns-then-not-is_fee_of
returns-then-not-is_fee_of c =
    unchanged row_at _ _ _
    (no-fee _ _ _ c.read_row-r.ensures (sym c.is_fee_of.ensures ∙ not-true _ c.if-not-is_fee_of.true-raw))

pub put_settled-requires : goal.put_settled-requires
put_settled-requires c = (c.requires.0, rw c.read_row-r.ensures c.requires.1)

pub returns : goal.returns
returns c =
    rw (← fee-whole _ _ _ c.read_row-r.ensures (sym c.is_fee_of.ensures ∙ not-false _ c.if-not-is_fee_of.false-raw)) c.put_settled.ensures
