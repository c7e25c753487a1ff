-- `settle_freed` meets its contract: of the accounts passed those are settled of which a hold has ended and that have money.
use Rattle.tick_holds.proofs.HoldLaws.{settled-journal, settled-none, settled-more, settled-less}
use Rattle.tick_holds.proofs.settle_freed.Goals as goal
use Rattle.tick_holds.proofs.settle_freed.Goals.{then-ends-n, else-ends-n}

pub loop-i-init : goal.loop-i-init
loop-i-init c = settled-none c.args.ends.now c.args.money.now _ _

pub settle-requires : goal.settle-requires
settle-requires c = settled-journal c.args.ends.now c.args.money.now c.loop-i.i _ _ _ c.requires.0 c.loop-i.invariant

pub loop-i-preserved : goal.loop-i-preserved
loop-i-preserved c =
    elim c.if-ends-n.branch [
      | then-ends-n w ↦ rw w.journal-is (settled-more c.args.ends.now c.args.money.now c.loop-i.i _ _ _ c.loop-i.invariant _ w.if-ends-n.true w.settle.ensures)
      | else-ends-n w ↦ rw w.journal-is (settled-less c.args.ends.now c.args.money.now c.loop-i.i _ _ _ c.loop-i.invariant w.if-ends-n.false)
    ]
