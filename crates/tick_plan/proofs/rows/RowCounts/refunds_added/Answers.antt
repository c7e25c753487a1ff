-- `rows::RowCounts::refunds_added` meets its contract: each account passed brings one row at most.
use Prim.Native.Nat.{◌+◌}
use native.Mathlib.Omega.{arith}
use mathlib.Core.Path.{refl}
use Rattle.lists.specs.Lists.{gather_from, tabulate}
use Rattle.lists.proofs.GatherLaws.{length-gather-tabulate}
use Rattle.records.specs.Encoding.{account_at}
use Rattle.tick_plan.specs.Plans.{refund_at}
use Rattle.lists.proofs.TestLaws.{byte-few}
use Rattle.tick_plan.proofs.CountLaws.{refund-counted}
use Rattle.tick_plan.proofs.rows.RowCounts.refunds_added.Goals as goal

pub loop-i-init : goal.loop-i-init
unfolding gather_from tabulate
loop-i-init c = (omega arith, refl)

pub loop-i-preserved : goal.loop-i-preserved
loop-i-preserved c =
    let h = length-gather-tabulate (refund_at c.args.self.now) (account_at c.args.t.accounts.now) c.loop-i.i in
    let r = refund-counted c.args.self.now (c.loop-i.i + 1) _ _ (rw c.read_account.ensures at c.will_refund.ensures) in
    (omega (arith, c.loop-i.invariant.0, byte-few c.will_refund.result), omega (arith, c.loop-i.invariant.1, r, h))
