-- `use_row` meets its contract: a row of an account that stays open and a debit are left, a source of a closing account is used whole.
use borrow.Author.Tests.{not-true, not-false}
use native.Mathlib.Omega.{arith}
use mathlib.Core.Path.{sym, ◌∙◌}
use Rattle.tick_close.proofs.CloseLaws.{open_stays, debit-stays, source-used}
use Rattle.tick_close.proofs.use_row.Goals as goal

pub overflow_sub-n : goal.overflow_sub-n
overflow_sub-n c = rw c.account_at-n.ensures c.requires.1.from

pub read_account-requires : goal.read_account-requires
read_account-requires c = rw c.account_at-n.ensures c.requires.1.to

pub offset_bounds-owed-n : goal.offset_bounds-owed-n
offset_bounds-owed-n c = rw c.account_at-n.ensures (omega (arith, c.requires.1.few))

pub bounds-owed-n : goal.bounds-owed-n
bounds-owed-n c = rw c.account_at-n.ensures (omega (arith, c.requires.1.few))

pub returns-then-not-is_closing : goal.returns-then-not-is_closing
returns-then-not-is_closing c =
    open_stays _ _ _ _ _ _ c.account_at-n.ensures (rw (← c.read_account.ensures) (sym c.is_closing.ensures ∙ not-true _ c.if-not-is_closing.true-raw))

pub returns-then-not-is_source : goal.returns-then-not-is_source
returns-then-not-is_source c =
    debit-stays _ _ _ _ _ _ c.account_at-n.ensures
    (rw (← c.read_account.ensures) (sym c.is_closing.ensures ∙ not-false _ c.if-not-is_closing.false-raw))
    _ c.read_row-r.ensures (sym c.is_source.ensures ∙ not-true _ c.if-not-is_source.true-raw)

pub put_settled-requires : goal.put_settled-requires
put_settled-requires c =
    (c.requires.0, rw c.read_row-r.ensures c.requires.1.amount)

pub returns : goal.returns
returns c =
    source-used _ _ _ _ _ _ c.account_at-n.ensures
    (rw (← c.read_account.ensures) (sym c.is_closing.ensures ∙ not-false _ c.if-not-is_closing.false-raw))
    _ c.read_row-r.ensures _ (sym c.is_source.ensures ∙ not-false _ c.if-not-is_source.false-raw) c.put_settled.ensures
