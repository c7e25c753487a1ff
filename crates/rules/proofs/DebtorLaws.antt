-- Laws of heavy debtors (document 02, No. 7): the debt in the first rows only rises, so the rows read decide as all rows do.
use mathlib.Core.Path.{◌≡◌, refl, sym, ◌∙◌}
use mathlib.Core.Bool.{Bool, true, false, true≢false}
use Prim.Native.Nat.{ℕ, zero, suc, ◌+◌, ◌-◌, ◌≤◌, ◌<◌}
use native.Mathlib.Omega.{arith}
use native.Mathlib.Decide.{dec_lt}
use mathlib.Core.List.{List}
use lib.ListN.{length, get_or}
use borrow.Author.Tests.{lt-ltb, ltb-true}
use Rattle.lists.specs.Lists.{sum_by, only}
use Rattle.lists.proofs.LeastLaws.{first-le, first-least, first-holds}
use Rattle.lists.proofs.SumLaws.{sum_by-take-suc}
use Rattle.records.specs.Limits.{heavy_debt}
use Rattle.rules.specs.Rows.{Row, blank, remaining}
use Rattle.rules.specs.Book.{Book}
use Rattle.rules.specs.Debtors.{counted_debt, debt_in, heavy_by, heavy, rows_read}

module _ (rows : List Row) (a : ℕ) where
  -- of no rows
  pub debt-none : debt_in rows a 0 ≡ 0
  unfolding debt_in sum_by
  debt-none = refl

  -- one row more
  pub debt-more : (n : ℕ) → n < length rows → debt_in rows a (suc n) ≡ debt_in rows a n + only (counted_debt rows a) remaining (get_or rows n blank)
  unfolding debt_in
  debt-more n l = sum_by-take-suc (only (counted_debt rows a) remaining) rows n blank l

  -- it only rises
  pub debt-rises : (n k : ℕ) → n + k ≤ length rows → debt_in rows a n ≤ debt_in rows a (n + k)
  debt-rises n zero l = let z : n + 0 ≡ n = omega arith in rw z (omega arith)
  debt-rises n (suc k) l = let z : n + suc k ≡ suc (n + k) = omega arith in rw z (omega (arith, debt-rises n k (omega arith), debt-more (n + k) (omega arith)))

  -- what is heavy by some rows is so by more
  pub heavy-rises : (n m : ℕ) → n ≤ m → m ≤ length rows → heavy_by rows a n ≡ true → heavy_by rows a m ≡ true
  unfolding heavy_by
  heavy-rises n m l h e =
      let z : n + (m - n) ≡ m = omega arith in
      lt-ltb heavy_debt _ (omega (arith, ltb-true heavy_debt _ e, rw z at (debt-rises n (m - n) (omega arith))))

  -- what is not so by some rows is not by fewer
  pub light-falls : (n m : ℕ) → n ≤ m → m ≤ length rows → heavy_by rows a m ≡ false → heavy_by rows a n ≡ false
  light-falls n m l h e = go (heavy_by rows a n) refl
    where
      go : (v : Bool) → heavy_by rows a n ≡ v → v ≡ false
      go true f = absurd (true≢false (sym (heavy-rises n m l h f) ∙ e))
      go false f = refl

-- "the smallest count of first rows whose sum exceeds 25,000": no smaller count does
pub rows_read-least : (b : Book) (a n : ℕ) → n < rows_read b a → heavy_by b.rows a n ≡ false
unfolding rows_read
rows_read-least b a n l = first-least (heavy_by b.rows a) 0 (length b.rows) n (omega arith) l

-- "or else all used rows": never more
pub rows_read-le : (b : Book) (a : ℕ) → rows_read b a ≤ length b.rows
unfolding rows_read
rows_read-le b a = omega (arith, first-le (heavy_by b.rows a) 0 (length b.rows))

-- "The reply is the same as from reading all rows"
pub heavy-read : (b : Book) (a : ℕ) → heavy b a ≡ heavy_by b.rows a (rows_read b a)
unfolding heavy rows_read
heavy-read b a = go (dec_lt (rows_read b a) (length b.rows))
  where
    go : Dec (rows_read b a < length b.rows) → heavy_by b.rows a (length b.rows) ≡ heavy_by b.rows a (rows_read b a)
    go (yes l) =
        let e : heavy_by b.rows a (rows_read b a) ≡ true = first-holds (heavy_by b.rows a) 0 (length b.rows) (omega (arith, l)) in
        heavy-rises b.rows a (rows_read b a) (length b.rows) (omega arith) (omega arith) e ∙ sym e
    go (no l) = let z : rows_read b a ≡ length b.rows = omega (arith, rows_read-le b a) in rw z
