-- `topup_due` meets its contract.
use mathlib.Core.Path.{sym, ◌∙◌}
use native.Mathlib.Omega.{arith}
use Rattle.rules.proofs.TableLaws.{header-length}
use Rattle.posting.proofs.BookLaws.{rows-lie, journal-summable}
use Rattle.balances.proofs.TopupLaws.{not-due, due-by-money}
use Rattle.balances.proofs.topup_due.Goals as goal

pub day-requires : goal.day-requires
day-requires c = omega (arith, header-length _ c.requires)

pub returns-then-not-may_topup : goal.returns-then-not-may_topup
returns-then-not-may_topup c =
    not-due _ c.requires _ _ c.account-x.ensures _ c.day.ensures (sym c.may_topup.ensures ∙ c.if-not-may_topup.true)

pub rows-requires : goal.rows-requires
rows-requires c = rows-lie _ c.requires

pub invariant_of-summable : goal.invariant_of-summable
invariant_of-summable c = rw (c.rows.ensures.journal, c.rows.ensures.used) (record { amounts = journal-summable _ c.requires })

pub returns : goal.returns
returns c =
    c.is_low.ensures
    ∙ due-by-money _ c.requires _ _ c.account-x.ensures _ c.day.ensures
    (sym c.may_topup.ensures ∙ c.if-not-may_topup.false) _ _ c.rows.ensures.used (rw c.rows.ensures.journal at c.unused_money.ensures)
