-- Settlement in steps is settlement in closed form.
use mathlib.Core.Path.{◌≡◌, refl, sym, ◌∙◌}
use mathlib.Core.Bool.{Bool, true, false, cond, true≢false}
use Prim.Native.Nat.{ℕ, zero, suc, ◌+◌, ◌-◌, ◌≤◌, ◌<◌, min}
use native.Mathlib.Omega.{arith}
use mathlib.Core.List.{List, [], ◌∷◌}
use lib.Dec.{eqb}
use borrow.Author.Tests.{eqb-true}
use Rattle.lists.specs.Lists.{sum_by, only}
use Rattle.rules.specs.Rows.{Row, Test, remaining, settle_more, source_of, payable}
use Rattle.rules.specs.Settlement.{allocate, money, moved_to, pay, settle_rank, settle_ranks, ranks, settle}
use Rattle.rules.specs.SettlementSteps.{first_remaining, settle_first, first_payment, pay_first, pay_times, ranks_in_steps, settle_in_steps}
use Rattle.rules.proofs.AllocationLaws.{Steady, Apart, settle_more-zero, allocate-zero, only-settle_more-other}
use Rattle.rules.proofs.RankLaws.{Rank, moved-pay, settle_rank-pay, settle_rank-same}
use Rattle.rules.proofs.SettlementLaws.{minus, Parts, rank-within, rank-minus, payable-rank, ranks-part}

-- ---- a payment is a allocate

module _ (t : Test) where
  feed-allocate : (n : ℕ) (rows : List Row) → n ≤ first_remaining t rows → settle_first t n rows ≡ allocate t n rows
  unfolding settle_first first_remaining allocate
  feed-allocate n [] h = refl
  feed-allocate n (r ∷ rs) h = go (feed-allocate n rs) (eqb (only t remaining r) 0) refl h
    where
      go : (n ≤ first_remaining t rs → settle_first t n rs ≡ allocate t n rs) → (b : Bool) → eqb (only t remaining r) 0 ≡ b → n ≤ cond b (first_remaining t rs) (only t remaining r)
          → cond b (r ∷ settle_first t n rs) (settle_more r n ∷ rs) ≡ settle_more r (min (only t remaining r) n) ∷ allocate t (n - only t remaining r) rs
      go ih true e l =
          let z : only t remaining r ≡ 0 = eqb-true (only t remaining r) 0 e in
          let x : min (only t remaining r) n ≡ 0 = omega arith in
          let y : n - only t remaining r ≡ n = omega arith in
          rw (x, y, settle_more-zero r, ih l)
      go ih false e l =
          let x : min (only t remaining r) n ≡ n = omega arith in
          let y : n - only t remaining r ≡ 0 = omega arith in
          rw (x, y, allocate-zero t rs)

  first_remaining-le : (rows : List Row) → first_remaining t rows ≤ sum_by (only t remaining) rows
  unfolding first_remaining sum_by
  first_remaining-le [] = omega arith
  first_remaining-le (r ∷ rs) = go (eqb (only t remaining r) 0) (first_remaining-le rs)
    where
      go : (b : Bool) → first_remaining t rs ≤ sum_by (only t remaining) rs → cond b (first_remaining t rs) (only t remaining r) ≤ only t remaining r + sum_by (only t remaining) rs
      go true h = omega arith
      go false h = omega arith

  -- there is first_remaining in a row if there is any
  first_remaining-none : (rows : List Row) → first_remaining t rows ≡ 0 → sum_by (only t remaining) rows ≡ 0
  unfolding first_remaining sum_by
  first_remaining-none [] e = refl
  first_remaining-none (r ∷ rs) h = go (eqb (only t remaining r) 0) refl (first_remaining-none rs) h
    where
      go : (b : Bool) → eqb (only t remaining r) 0 ≡ b → (first_remaining t rs ≡ 0 → sum_by (only t remaining) rs ≡ 0) → cond b (first_remaining t rs) (only t remaining r) ≡ 0
          → only t remaining r + sum_by (only t remaining) rs ≡ 0
      go true e ih z = let q : only t remaining r ≡ 0 = eqb-true (only t remaining r) 0 e in omega (arith, ih z)
      go false e ih z = absurd (go' e)
        where
          go' : eqb (only t remaining r) 0 ≡ false → ⊥
          go' = rw z λ x. true≢false x

first_remaining-other : (t u : Test) → Apart t u → Steady u → (p : ℕ) (rows : List Row) → first_remaining u (allocate t p rows) ≡ first_remaining u rows
unfolding first_remaining allocate
first_remaining-other t u a s p [] = refl
first_remaining-other t u a s p (r ∷ rs) =
    rw (only-settle_more-other t u remaining remaining a s r (min (only t remaining r) p) (omega arith), first_remaining-other t u a s (p - only t remaining r) rs)

-- ---- one rank

module _ (t : Test) (a : ℕ) (k : Rank a t) where
  pay_first-pay : (rows : List Row) → pay_first t a rows ≡ pay t a (first_payment t a rows) rows
  unfolding pay_first first_payment pay
  pay_first-pay rows =
      let s : Test = source_of a in
      let m : ℕ = min (first_remaining s rows) (first_remaining t rows) in
      let e : settle_first s m rows ≡ allocate s m rows = feed-allocate s m rows (omega arith) in
      rw e (feed-allocate t m (allocate s m rows) (omega (arith, first_remaining-other s t k.no-source k.steady m rows)))

  first_payment-le : (rows : List Row) → first_payment t a rows ≤ moved_to t a rows
  unfolding first_payment moved_to money
  first_payment-le rows = omega (arith, first_remaining-le (source_of a) rows, first_remaining-le t rows)

  -- a payment is of something, while there is something to move
  first_payment-moves : (rows : List Row) → 0 < moved_to t a rows → 0 < first_payment t a rows
  unfolding first_payment moved_to money
  first_payment-moves rows h =
      go (first_remaining (source_of a) rows) (first_remaining t rows) (first_remaining-none (source_of a) rows) (first_remaining-none t rows)
    where
      go : (m n : ℕ) → (m ≡ 0 → sum_by (only (source_of a) remaining) rows ≡ 0) → (n ≡ 0 → sum_by (only t remaining) rows ≡ 0) → 0 < min m n
      go zero n p q = absurd (omega (arith, p refl))
      go (suc m) zero p q = absurd (omega (arith, q refl))
      go (suc m) (suc n) p q = omega arith

  pub pay_times-settle : (n : ℕ) (rows : List Row) → moved_to t a rows ≤ n → pay_times n t a rows ≡ settle_rank t a rows
  unfolding pay_times
  pay_times-settle zero rows h = sym (settle_rank-same t a k rows (omega arith))
  pay_times-settle (suc n) rows h =
      rw (pay_first-pay rows)
      (pay_times-settle n (pay t a (first_payment t a rows) rows)
      (rw (moved-pay t a k (first_payment t a rows) rows) (go (moved_to t a rows) (first_payment-moves rows) h))
      ∙ settle_rank-pay t a k (first_payment t a rows) rows (first_payment-le rows))
    where
      go : (m : ℕ) → (0 < m → 0 < first_payment t a rows) → m ≤ suc n → m - first_payment t a rows ≤ n
      go zero p l = omega arith
      go (suc m) p l = omega (arith, p (omega arith))

-- ---- the ranks in order

ranks-in-steps : (a : ℕ) (ts : List Test) (u : Test) → Rank a u → Parts u ts → (rows : List Row) → ranks_in_steps ts a rows ≡ settle_ranks ts a rows
unfolding ranks_in_steps settle_ranks Parts
ranks-in-steps a [] u k p rows = refl
ranks-in-steps a (t ∷ ts) u k p rows =
    rw (pay_times-settle t a (rank-within a t u k p.0 p.1) (moved_to t a rows) rows (omega arith))
    (ranks-in-steps a ts (minus u t) (rank-minus a t u k p.0) p.2 (settle_rank t a rows))

-- "until either side is spent" is the lesser of the two sides, moved
pub steps-settle : (a : ℕ) (rows : List Row) → settle_in_steps a rows ≡ settle a rows
unfolding settle_in_steps settle
steps-settle a rows = ranks-in-steps a (ranks rows a) (payable rows a) (payable-rank rows a) (ranks-part rows a) rows
