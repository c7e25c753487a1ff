-- `lists_used` meets its contract: n counts those of the first i.
use Rattle.table_lists.proofs.UsedLaws.{used_of, used-more}
use Rattle.lists.proofs.TestLaws.{byte-few}
use Rattle.rules.specs.Tables.{lists_used}
use Rattle.records.specs.Layout.{later_lists}
use mathlib.Core.Path.{◌≡◌, refl}
use native.Mathlib.Omega.{arith}
use lib.Dec.{ltb}
use Rattle.lists.specs.Lists.{sum_by, count, tabulate}
use Rattle.table_lists.proofs.Header.lists_used.Goals as goal

pub loop-i-init : goal.loop-i-init
unfolding used_of count sum_by tabulate
loop-i-init c = (omega arith, refl)

pub overflow_add-n : goal.overflow_add-n
overflow_add-n c = omega (arith, c.loop-i.invariant.0, c.from-n.ensures, byte-few (ltb 0 c.later_day.result))

pub loop-i-preserved : goal.loop-i-preserved
loop-i-preserved c =
    let l = c in (
      omega (arith, l.loop-i.invariant.0, c.from-n.ensures, byte-few (ltb 0 c.later_day.result)),
      rw c.from-n.ensures (used-more l.args.self.words.now l.loop-i.i l.loop-i.n c.later_day.result l.loop-i.invariant.1 c.later_day.ensures),
    )

pub returns : goal.returns
unfolding lists_used used_of
returns c =
    let e : c.loop-i.i ≡ later_lists = omega arith in
    rw e at c.loop-i.invariant.1
