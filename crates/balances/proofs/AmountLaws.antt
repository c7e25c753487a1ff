-- What one row more makes of a sum over an account's rows, and how large such a sum becomes.
use mathlib.Core.Path.{◌≡◌, refl, sym, ◌∙◌}
use mathlib.Core.Bool.{Bool, true, false, cond, ◌&&◌}
use Prim.Native.Nat.{ℕ, ◌+◌, ◌^◌, ◌≤◌, ◌<◌}
use native.Mathlib.Omega.{arith}
use mathlib.Core.List.{List}
use lib.IntN.{ℤ}
use borrow.Author.Tests.{eq-eqb, ne_eqb}
use Rattle.records.specs.Encoding.{row_at, rows_of}
use Rattle.lists.specs.Tests.{◌is◌}
use Rattle.lists.specs.Lists.{sum_by, only, tabulate}
use Rattle.lists.proofs.SumLaws.{sum_by-more, sum_by-ext}
use Rattle.rules.specs.Rows.{Row, Test, source_of, debit_of}
use Rattle.rules.specs.Book.{sources, debits}
use Rattle.posting.specs.Posts.{Amounts}
use Rattle.posting.proofs.MeasureLaws.{measured-small}
use Rattle.balances.specs.declared.Sums.{Sums}
use Rattle.balances.specs.Summed.{Summed, account_sum}

-- ---- one row more

module _ (t : List ℤ) (a : ℕ) (f : Row → ℕ) where
  pub sum-none : 0 ≡ account_sum (rows_of t 0) a f
  unfolding account_sum sum_by tabulate
  sum-none = refl

  -- n is the account of row i, read before the rest of it
  module _ (i sum n : ℕ) (e : sum ≡ account_sum (rows_of t i) a f) (k : n ≡ (row_at t i).account) where
    sum-more : (x : ℕ) → x ≡ only (λ r. r.account is a) f (row_at t i) → sum + x ≡ account_sum (rows_of t (i + 1)) a f
    unfolding account_sum
    sum-more x q = rw (sum_by-more, e, q)

    pub sum-other : (n ≡ a → ⊥) → sum ≡ account_sum (rows_of t (i + 1)) a f
    unfolding only
    sum-other o =
        let z : 0 ≡ only (λ r. r.account is a) f (row_at t i) = rw (ne_eqb (row_at t i).account a (λ x. o (k ∙ x))) in
        omega (arith, sum-more 0 z)

    -- it is the account's, and r is the row
    pub sum-own : (r : Row) (x : ℕ) → n ≡ a → r ≡ row_at t i → x ≡ f r → sum + x ≡ account_sum (rows_of t (i + 1)) a f
    unfolding only
    sum-own r x h b q = sum-more x (rw (eq-eqb (row_at t i).account a (sym k ∙ h), q, b))

-- ---- it fits

module _ (j : List ℤ) (used : ℕ) (m : Amounts j used) where
  pub sum_fits : (a : ℕ) (f : Row → ℕ) (within : (r : Row) → f r ≤ r.amount) (i sum x : ℕ) (r : Row) → i < used
      → sum ≡ account_sum (rows_of j i) a f → r ≡ row_at j i → x ≡ f r → sum + x < 2 ^ 63
  unfolding account_sum
  sum_fits a f within i sum x r h e b q =
      let w : x ≤ (row_at j i).amount = rw (q, b) (within (row_at j i)) in
      omega (arith, e, measured-small j used m (λ x. x.account is a) f within i (omega arith), m.small i h, m.few)

  pub sums-fit : (a : ℕ) (s : Sums) → Summed j a used s → (s.sources < 2 ^ 63) × (s.debits < 2 ^ 63)
  unfolding sources debits
  sums-fit a s e = (
    omega (arith, e.sources, measured-small j used m (source_of a) (λ x. x.amount) (λ x. omega arith) used (omega arith), m.few),
    omega (arith, e.debits, measured-small j used m (debit_of a) (λ x. x.amount) (λ x. omega arith) used (omega arith), m.few),
  )

-- ---- a test on them

module _ (t : Test) (f : Row → ℕ) where
  -- f of a row that passes
  abbrev pub passed : Row → ℕ
  passed r = cond (t r) (f r) 0

  pub passed-le : (within : (r : Row) → f r ≤ r.amount) (r : Row) → passed r ≤ r.amount
  passed-le within r = go (t r)
    where
      go : (b : Bool) → cond b (f r) 0 ≤ r.amount
      go true = within r
      go false = omega arith

  -- the account's rows that pass, by one test
  pub passed-sum : (rows : List Row) (a : ℕ) → account_sum rows a passed ≡ sum_by (only (λ r. r.account is a && t r) f) rows
  unfolding account_sum only
  passed-sum rows a = sum_by-ext _ _ rows (λ r. go (r.account is a) (t r) (f r))
    where
      go : (b c : Bool) (v : ℕ) → cond b (cond c v 0) 0 ≡ cond (b && c) v 0
      go true c v = refl
      go false c v = refl
