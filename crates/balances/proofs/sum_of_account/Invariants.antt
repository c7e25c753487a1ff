use Prim.Native.Nat.{ℕ}
use mathlib.Core.Path.{◌≡◌}
use Rattle.records.specs.Encoding.{rows_of}
use Rattle.rules.specs.Rows.{Row}
use Rattle.posting.specs.Posts.{Measures}
use Rattle.balances.specs.Summed.{account_sum}
use Rattle.balances.proofs.sum_of_account.Given as goal

abbrev pub invariant-loop-i : goal.invariant-loop-i
invariant-loop-i g l = (f : Row → ℕ) → Measures g.F.Fn l.part f → l.sum ≡ account_sum (rows_of l.rows.journal.now l.i) l.account f
