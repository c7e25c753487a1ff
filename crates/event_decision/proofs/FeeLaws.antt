-- A toll and its fees: how large their sum becomes, a row more of it, and a fee settled whole.
use mathlib.Core.Path.{◌≡◌, refl, ◌∙◌}
use mathlib.Core.Logic.{◌⊎◌, inl, inr}
use mathlib.Core.Bool.{Bool, true, false, cond}
use Prim.Native.Nat.{ℕ, zero, suc, ◌+◌, ◌^◌, ◌≤◌, ◌<◌}
use native.Mathlib.Omega.{arith}
use native.Mathlib.Decide.{dec_lt}
use mathlib.Core.List.{List}
use lib.ListN.{get_or, get_or-eq_default}
use lib.IntN.{ℤ}
use Rattle.records.specs.Encoding.{row_at, rows_of}
use Rattle.lists.specs.Lists.{sum_by, only, tabulate}
use Rattle.lists.proofs.ListLaws.{length-tabulate, tabulate-at}
use Rattle.lists.proofs.SumLaws.{sum_by-more}
use Rattle.records.specs.Limits.{highest_refund}
use Rattle.rules.specs.Rows.{Row, blank, row_no, with_settled, remaining, settle_whole, fee_naming}
use Rattle.tables.specs.Changes.{RowIn}
use Rattle.row_passes.specs.Passes.{RowLeft}
use Rattle.settlement.specs.Settling.{Journal}
use Rattle.posting.specs.Posts.{Amounts}
use Rattle.posting.proofs.MeasureLaws.{measured-small}
use Rattle.event_decision.specs.Decision.{toll_and_fees, fee_settled}

-- ---- a row

module _ (f : Row → ℕ) (n : ℕ) where
  -- what a row adds to the fees of toll n
  abbrev pub fee_part : Row → ℕ
  fee_part = only (fee_naming n) f

-- ---- the sum

module _ (j : List ℤ) (used : ℕ) (f : Row → ℕ) (n : ℕ) where
  -- toll n and its fees among the first i rows
  abbrev pub sum_to : ℕ → ℕ
  sum_to i = f (row_no (rows_of j used) n) + sum_by (fee_part f n) (rows_of j i)

  pub sum-start : (r : Row) (x : ℕ) → r ≡ row_no (rows_of j used) n → x ≡ f r → x ≡ sum_to 0
  unfolding sum_by tabulate
  sum-start r x e q = (rw e at q) ∙ omega arith

  -- the next row is a fee of the toll, or none
  pub sum-fee : (i sum x : ℕ) (r : Row) → sum ≡ sum_to i → r ≡ row_at j i → fee_naming n r ≡ true → x ≡ f r → sum + x ≡ sum_to (i + 1)
  unfolding only
  sum-fee i sum x r e a b q =
      let z : fee_part f n (row_at j i) ≡ x = rw (← a, b, q) in
      omega (arith, sum_by-more (fee_part f n) (row_at j) i)

  pub sum-other : (i sum : ℕ) (r : Row) → sum ≡ sum_to i → r ≡ row_at j i → fee_naming n r ≡ false → sum ≡ sum_to (i + 1)
  unfolding only
  sum-other i sum r e a b =
      let z : fee_part f n (row_at j i) ≡ 0 = rw (← a, b) in
      omega (arith, sum_by-more (fee_part f n) (row_at j) i)

  module _ (within : (r : Row) → f r ≤ r.amount) (m : Amounts j used) where
    toll-small : f (row_no (rows_of j used) n) ≤ highest_refund
    toll-small = go n
      where
        at : (k : ℕ) → Dec (k < used) → (get_or (rows_of j used) k blank).amount ≤ highest_refund
        at k (yes h) = rw (tabulate-at (row_at j) used k blank h) (m.small k h)
        at k (no h) = rw (get_or-eq_default (rows_of j used) blank {n = k} (omega (arith, length-tabulate (row_at j) used))) (omega arith)

        go : (k : ℕ) → f (row_no (rows_of j used) k) ≤ highest_refund
        go zero = omega (arith, within blank)
        go (suc k) = omega (arith, within (get_or (rows_of j used) k blank), at k (dec_lt k used))

    pub sum_fits : (i sum x : ℕ) (r : Row) → i < used → sum ≡ sum_to i → r ≡ row_at j i → x ≡ f r → sum + x < 2 ^ 63
    sum_fits i sum x r h e a b =
        let q : x ≤ (row_at j i).amount = rw (b, a) (within (row_at j i)) in
        omega (arith, toll-small, measured-small j used m (fee_naming n) f within i (omega arith), m.small i h, m.few)

    pub sum-small : toll_and_fees (rows_of j used) n f < 2 ^ 63
    unfolding toll_and_fees
    sum-small = omega (arith, toll-small, measured-small j used m (fee_naming n) f within used (omega arith), m.few)

-- ---- a fee settled whole

module _ (n : ℕ) (r x : Row) (e : x ≡ r) where
  pub no-fee : fee_naming n x ≡ false → r ≡ fee_settled n r
  no-fee f = let z : fee_naming n r ≡ false = rw e at f in rw z

  pub fee-whole : fee_naming n x ≡ true → with_settled x.amount r ≡ fee_settled n r
  fee-whole f = let z : fee_naming n r ≡ true = rw e at f in rw (z, e)

-- each row still has an amount that can be written after the fees before it have been settled
pub amount-left : (t u : List ℤ) (used i : ℕ) → Journal t used → RowLeft t u used i → RowIn u i × ((row_at u i).amount < 2 ^ 63)
amount-left t u used i j l = (omega (arith, l.inside, l.size, j.room), rw l.same (j.amounts i l.inside))

-- a row is as before, or settled whole
pub same-or-whole : (b : Bool) (r : Row) → (cond b (settle_whole r) r ≡ r) ⊎ (remaining (cond b (settle_whole r) r) ≡ 0)
same-or-whole true r = inr (omega arith)
same-or-whole false r = inl refl
