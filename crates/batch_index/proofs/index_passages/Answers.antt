-- `index_passages` meets its contract: the trees have the rows passed.
use native.Mathlib.Omega.{arith}
use mathlib.Core.Path.{◌≡◌}
use Rattle.batch_index.proofs.IndexLaws.{inserted-trees}
use Rattle.batch_index.proofs.index_passages.Goals as goal

pub loop-i-preserved : goal.loop-i-preserved
loop-i-preserved c = inserted-trees _ _ _ _ _ c.loop-i-test.true c.requires.0.differ c.insert.ensures

pub returns : goal.returns
returns c = let e : c.loop-i.i ≡ c.args.rows.now.used = omega arith in rw e at c.loop-i.invariant
