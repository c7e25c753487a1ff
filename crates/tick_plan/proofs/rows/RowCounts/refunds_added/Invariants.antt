use Prim.Native.Nat.{◌≤◌}
use mathlib.Core.Path.{◌≡◌}
use lib.ListN.{length}
use Rattle.lists.specs.Lists.{gather}
use Rattle.records.specs.Encoding.{accounts_of}
use Rattle.tick_plan.specs.Plans.{refund_at}
use Rattle.tick_plan.proofs.rows.RowCounts.refunds_added.Given as goal

abbrev pub invariant-loop-i : goal.invariant-loop-i
invariant-loop-i l = (l.refunds ≤ l.i) × (l.refunds ≡ length (gather (refund_at l.self) (accounts_of l.t.accounts.now l.i)))
