-- `close_account` meets its contract: the account stays open, closes with no money, or closes and its money leaves.
use borrow.Author.Tests.{not-true, not-false}
use mathlib.Core.Path.{sym, ◌∙◌}
use Rattle.tick_close.proofs.CloseLaws.{stays_open, closes-bare, closes-refunding, closed-holds, refund-room, refund-holds}
use Rattle.tick_close.proofs.close_account.Goals as goal

pub returns-then-not-is_closing-clause-closed : goal.returns-then-not-is_closing-clause-closed
returns-then-not-is_closing-clause-closed c =
    let x = rw c.read.ensures.accounts at c.read_account-x.ensures in
    stays_open _ _ _ _ _ _ (rw (← x) (sym c.is_closing.ensures ∙ not-true _ c.if-not-is_closing.true-raw))

pub write_account-requires : goal.write_account-requires
write_account-requires c =
    let p = c.requires in
    let x = rw c.read.ensures.accounts at c.read_account-x.ensures in
    (p.account, rw (c.close.ensures, x) (closed-holds _ _ _ _ _ _ p))

pub returns-then-money-eq0-clause-closed : goal.returns-then-money-eq0-clause-closed
returns-then-money-eq0-clause-closed c =
    let x = rw c.read.ensures.accounts at c.read_account-x.ensures in
    closes-bare _ _ _ _ _ _ _
    (rw (← x) (sym c.is_closing.ensures ∙ not-false _ c.if-not-is_closing.false-raw))
    (rw (c.close.ensures, x) at c.write_account.ensures)
    c.if-money-eq0.true

pub add_row-requires : goal.add_row-requires
add_row-requires c =
    let p = c.requires in
    let x = rw c.read.ensures.accounts at c.read_account-x.ensures in (
      refund-room _ _ _ _ _ _ p
          (rw (← x) (sym c.is_closing.ensures ∙ not-false _ c.if-not-is_closing.false-raw))
          c.if-money-eq0.false,
      rw c.new_row-r.ensures (refund-holds _ _ _ _ _ _ p),
    )

pub returns-clause-closed : goal.returns-clause-closed
returns-clause-closed c =
    let x = rw c.read.ensures.accounts at c.read_account-x.ensures in
    closes-refunding _ _ _ _ _ _ _
    (rw (← x) (sym c.is_closing.ensures ∙ not-false _ c.if-not-is_closing.false-raw))
    (rw (c.close.ensures, x) at c.write_account.ensures)
    _ _
    c.if-money-eq0.false
    (rw c.new_row-r.ensures at c.add_row.ensures)
