-- `slots::Slots::add_rows` meets its contract: the rows passed are added.
use native.Mathlib.Omega.{arith}
use mathlib.Core.Path.{◌≡◌}
use Rattle.batch_index.proofs.SlotLaws.{rows-added}
use Rattle.batch_index.proofs.slots.Slots.add_rows.Goals as goal

pub returns : goal.returns
returns c =
    let e : c.loop-i.i ≡ c.args.countable.now.rows.used = omega arith in
    rows-added _ _ _ (rw e at c.loop-i.invariant.0) (rw e at c.loop-i.invariant.1)
