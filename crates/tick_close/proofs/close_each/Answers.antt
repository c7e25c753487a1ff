-- `close_each` meets its contract: the accounts passed are done.
use Rattle.lent.proofs.LentLaws.{same-none, same-same}
use Rattle.tick_close.proofs.CloseLaws.{closed_none, closable-next, closed-more}
use Rattle.tick_close.proofs.close_each.Goals as goal

pub loop-i-init : goal.loop-i-init
loop-i-init c = (closed_none _ _ _ _ _, same-none c.args.t.now)

pub close_account-requires : goal.close_account-requires
close_account-requires c = closable-next _ _ _ _ _ c.requires _ _ _ _ (rw c.count-i-end.ensures at c.loop-i-test.true) c.loop-i.invariant.0

pub loop-i-preserved : goal.loop-i-preserved
loop-i-preserved c = (
  closed-more _ _ _ _ _ c.requires _ _ _ _ (rw c.count-i-end.ensures at c.loop-i-test.true) c.loop-i.invariant.0 _ _ _ c.close_account.ensures.closed,
  same-same c.args.t.now c.loop-i.t c.close_account.new.t c.loop-i.invariant.1 c.close_account.ensures.same,
)
