-- How large what is measured of the used rows becomes.
use Prim.Native.Nat.{ℕ, ◌*◌, ◌≤◌}
use native.Mathlib.Omega.{arith}
use mathlib.Core.List.{List}
use lib.IntN.{ℤ}
use Rattle.records.specs.Encoding.{row_at, rows_of}
use Rattle.lists.specs.Lists.{sum_by, only}
use Rattle.lists.proofs.SumLaws.{sum_by-small, only-le}
use Rattle.records.specs.Limits.{highest_refund}
use Rattle.rules.specs.Rows.{Row, Test}
use Rattle.posting.specs.Posts.{Amounts}

-- the sum over the rows that pass a test, of what is at most a row's amount
pub measured-small : (j : List ℤ) (used : ℕ) (m : Amounts j used) (t : Test) (f : Row → ℕ) (within : (r : Row) → f r ≤ r.amount) (i : ℕ) → i ≤ used
    → sum_by (only t f) (rows_of j i) ≤ i * highest_refund
measured-small j used m t f within i h =
    sum_by-small (only t f) (row_at j) highest_refund i
    (λ k l. omega (arith, only-le t f (row_at j k), within (row_at j k), m.small k (omega arith)))
