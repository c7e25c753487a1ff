-- Laws behind the question about a heavy debtor: what a row counts, and the rows read one by one.
use mathlib.Core.Path.{◌≡◌, refl, sym, ◌∙◌}
use mathlib.Core.Bool.{Bool, true, false, not, cond, ◌&&◌, ◌||◌}
use Prim.Native.Nat.{ℕ, suc, ◌+◌, ◌^◌, ◌≤◌, ◌<◌}
use native.Mathlib.Omega.{arith}
use native.Mathlib.Decide.{dec_lt}
use mathlib.Core.List.{List}
use lib.ListN.{length, get_or}
use lib.IntN.{ℤ}
use borrow.Author.Tests.{eq-eqb, ne_eqb, lt-ltb, le-ltb}
use Rattle.lists.specs.Tests.{◌is◌}
use Rattle.lists.specs.Lists.{only, least}
use Rattle.lists.proofs.ListLaws.{tabulate-at, length-tabulate}
use Rattle.lists.proofs.SumLaws.{only-le}
use Rattle.lists.proofs.LeastLaws.{first-none, first-found}
use Rattle.records.specs.Encoding.{row_at, rows_of}
use Rattle.records.specs.Limits.{heavy_debt, highest_refund}
use Rattle.rules.specs.Rows.{Row, blank, kind_fee, toll, held, remaining}
use Rattle.rules.specs.Debtors.{counted_debt, debt_in, heavy_by}
use Rattle.rules.proofs.DebtorLaws.{debt-none, debt-more, heavy-rises, light-falls}
use Rattle.posting.specs.Posts.{Amounts}

-- ---- a row

-- a row of another account counts nothing
pub counts-none : (rows : List Row) (a n : ℕ) (r : Row) → n ≡ r.account → (n ≡ a → ⊥) → 0 ≡ only (counted_debt rows a) remaining r
unfolding only counted_debt
counts-none rows a n r e f = rw (← e, ne_eqb n a f)

-- one of the account counts by its kind
pub counts-own : (rows : List Row) (a n : ℕ) (r : Row) → n ≡ r.account → n ≡ a
    → cond ((toll r || r.kind is kind_fee) && not (held rows r)) (remaining r) 0 ≡ only (counted_debt rows a) remaining r
unfolding only counted_debt
counts-own rows a n r e f = rw (← e, eq-eqb n a f)

-- ---- the first rows of a journal

module _ (t : List ℤ) (used a : ℕ) where
  abbrev rows : List Row
  rows = rows_of t used

  rows-length : length rows ≡ used
  rows-length = length-tabulate (row_at t) used

  -- of the first i rows so much is counted, which is not too much
  pub record Counted (debt i : ℕ) : Type 0 where
    pub sum : debt ≡ debt_in rows a i
    pub within : debt ≤ heavy_debt

  pub counted-none : Counted 0 0
  counted-none = record { sum = sym (debt-none rows a); within = omega arith }

  -- so they do not exceed the limit
  light : (debt i : ℕ) → Counted debt i → heavy_by rows a i ≡ false
  light debt i c = unfold heavy_by in rw (← c.sum) (le-ltb heavy_debt debt c.within)

  -- row i counts x
  module _ (debt i x : ℕ) (c : Counted debt i) (l : i < used) (e : x ≡ only (counted_debt rows a) remaining (row_at t i)) where
    row-counts : debt + x ≡ debt_in rows a (suc i)
    row-counts =
        let z : get_or rows i blank ≡ row_at t i = tabulate-at (row_at t) used i blank l in
        omega (arith, c.sum, e, rw z at (debt-more rows a i (omega (arith, rows-length))))

    -- no smaller count exceeds the limit
    none-before : (j : ℕ) → j ≤ i → heavy_by rows a j ≡ false
    none-before j h = light-falls rows a j i h (omega (arith, rows-length)) (light debt i c)

    pub counted-more : debt + x ≤ heavy_debt → Counted (debt + x) (i + 1)
    counted-more h = let z : i + 1 ≡ suc i = omega arith in record { sum = rw z row-counts; within = h }

    -- this one does
    module _ (h : heavy_debt < debt + x) where
      exceeds : heavy_by rows a (suc i) ≡ true
      exceeds = unfold heavy_by in rw (← row-counts) (lt-ltb heavy_debt (debt + x) h)

      pub heavy-found : true ≡ heavy_by rows a used
      heavy-found = sym (heavy-rises rows a (suc i) used (omega arith) (omega (arith, rows-length)) exceeds)

      pub least-found : i + 1 ≡ least (heavy_by rows a) used
      least-found = go (dec_lt (suc i) used)
        where
          go : Dec (suc i < used) → i + 1 ≡ least (heavy_by rows a) used
          go (yes m) = let z : 0 + suc i ≡ suc i = omega arith in
              omega (arith, first-found (heavy_by rows a) 0 used (suc i) m (λ j p q. none-before j (omega arith)) (rw z exceeds))
          go (no m) = omega (arith, first-none (heavy_by rows a) 0 used (λ j p q. none-before j (omega arith)))

  -- none does
  module _ (debt : ℕ) (c : Counted debt used) where
    pub heavy-none : false ≡ heavy_by rows a used
    heavy-none = sym (light debt used c)

    pub least-none : used ≡ least (heavy_by rows a) used
    least-none = omega (arith, first-none (heavy_by rows a) 0 used (λ j p q. light-falls rows a j used (omega arith) (omega (arith, rows-length)) (light debt used c)))

  -- a row counts no more than its amount
  pub counts-small : Amounts t used → (i x : ℕ) → i < used → x ≡ only (counted_debt rows a) remaining (row_at t i) → x ≤ highest_refund
  counts-small m i x l e = omega (arith, e, only-le (counted_debt rows a) remaining (row_at t i), m.small i l)
