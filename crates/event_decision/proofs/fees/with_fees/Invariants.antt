use Prim.Native.Nat.{ℕ}
use mathlib.Core.Path.{◌≡◌}
use Rattle.rules.specs.Rows.{Row}
use Rattle.posting.specs.Posts.{Measures}
use Rattle.event_decision.proofs.FeeLaws.{sum_to}
use Rattle.event_decision.proofs.fees.with_fees.Given as goal

abbrev pub invariant-loop-i : goal.invariant-loop-i
invariant-loop-i g l = (f : Row → ℕ) → Measures g.F.Fn l.part f → l.sum ≡ sum_to l.rows.journal.now l.rows.used f l.n l.i
