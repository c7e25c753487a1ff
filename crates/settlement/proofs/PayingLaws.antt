-- The walk of settlement over lists of rows, for the debits of one rank, those that pass the test t: i goes over the sources, j over the
-- debits, and p has been paid.
use mathlib.Core.Path.{◌≡◌, sym, ap, ◌∙◌}
use Prim.Native.Nat.{ℕ, suc, ◌+◌, ◌-◌, ◌≤◌, ◌<◌}
use native.Mathlib.Omega.{arith}
use mathlib.Core.List.{List}
use lib.ListN.{length, take, get_or, set}
use lib.Seq.{take_all}
use Rattle.lists.specs.Lists.{sum_by, only}
use Rattle.lists.proofs.SumLaws.{sum_by-take-suc, sum_by-at-le}
use Rattle.rules.specs.Rows.{Row, Test, blank, remaining, settle_more, source_of}
use Rattle.rules.specs.Settlement.{allocate, money, moved_to, pay, settle_rank}
use Rattle.rules.proofs.AllocationLaws.{Apart, within-self, allocate-first, length-allocate, other-allocate, remaining-allocate, take-allocate, remaining-allocate-at, remaining-first}
use Rattle.rules.proofs.RankLaws.{Rank, source-steady, apart-swap, pay-zero, pay-pay, moved-pay}

-- the two stores of the code: m from source i to debit j
unfoldable pub transfer : ℕ → ℕ → ℕ → List Row → List Row
transfer i j m rows =
    let mid : List Row = set rows i (settle_more (get_or rows i blank) m) in
    set mid j (settle_more (get_or mid j blank) m)

-- `rows` is the journal now, `old` as it was: p has been paid, no source before i has money, and no debit before j wants any
pub record Paying (t : Test) (a : ℕ) (old rows : List Row) (i j p : ℕ) : Type 0 where
  pub now : rows ≡ pay t a p old
  pub sources : sum_by (only (source_of a) remaining) (take i rows) ≡ 0
  pub debits : sum_by (only t remaining) (take j rows) ≡ 0
  pub within : p ≤ moved_to t a old

module _ (t : Test) (a : ℕ) where
  pub paying-start : (rows : List Row) (i j : ℕ) → sum_by (only (source_of a) remaining) (take i rows) ≡ 0 → sum_by (only t remaining) (take j rows) ≡ 0
      → Paying t a rows rows i j 0
  paying-start rows i j s d = record { now = sym (pay-zero t a rows); sources = s; debits = d; within = omega arith }

  pub next-source : (old rows : List Row) (i j p : ℕ) → Paying t a old rows i j p
      → i < length rows → only (source_of a) remaining (get_or rows i blank) ≡ 0 → Paying t a old rows (suc i) j p
  next-source old rows i j p w h z = record {
    now = w.now;
    sources = omega (arith, sum_by-take-suc (only (source_of a) remaining) rows i blank h);
    debits = w.debits;
    within = w.within;
  }

  module _ (k : Rank a t) where
    rank-source : Apart t (source_of a)
    rank-source = apart-swap (source_of a) t k.no-source

    -- ---- the loop ends

    paying-end : (old rows : List Row) (i j p : ℕ) → Paying t a old rows i j p → moved_to t a rows ≡ 0 → rows ≡ settle_rank t a old
    unfolding settle_rank
    paying-end old rows i j p w z =
        let e : moved_to t a (pay t a p old) ≡ 0 = rw w.now at z in
        let q : p ≡ moved_to t a old = omega (arith, w.within, moved-pay t a k p old) in
        rw (← q) w.now

    pub out-of-sources : (old rows : List Row) (i j p : ℕ) → Paying t a old rows i j p → length rows ≤ i → rows ≡ settle_rank t a old
    unfolding moved_to money
    out-of-sources old rows i j p w h =
        let e : sum_by (only (source_of a) remaining) rows ≡ 0 = rw take_all at w.sources in
        paying-end old rows i j p w (omega arith)

    pub out-of-debits : (old rows : List Row) (i j p : ℕ) → Paying t a old rows i j p → length rows ≤ j → rows ≡ settle_rank t a old
    unfolding moved_to
    out-of-debits old rows i j p w h =
        let e : sum_by (only t remaining) rows ≡ 0 = rw take_all at w.debits in
        paying-end old rows i j p w (omega arith)

    -- ---- a turn

    -- a payment of m more, of what is there to move
    paying-pay : (old rows : List Row) (i j p m : ℕ) → Paying t a old rows i j p → m ≤ moved_to t a rows → Paying t a old (pay t a m rows) i j (p + m)
    unfolding pay
    paying-pay old rows i j p m w h =
        let s : Test = source_of a in
        let z : moved_to t a (pay t a p old) ≡ moved_to t a rows = rw w.now in
        let si : List Row = take i rows in
        let sj : List Row = take j rows in
        let e₁ = other-allocate t s remaining rank-source (source-steady a) m (allocate s m si) in
        let e₂ = remaining-allocate s s (within-self s) (source-steady a) m si in
        let e₃ = remaining-allocate t t (within-self t) k.steady m (allocate s m sj) in
        let e₄ = other-allocate s t remaining k.no-source k.steady m sj in
        record {
          now = ap {B = List Row} (λ (l : List Row). pay t a m l) w.now ∙ pay-pay t a k p m old;
          sources = simp take-allocate (omega (arith, w.sources));
          debits = simp take-allocate (omega (arith, w.debits));
          within = omega (arith, w.within, moved-pay t a k p old);
        }

    transfer-pay : (rows : List Row) (i j m : ℕ)
        → i < length rows → sum_by (only (source_of a) remaining) (take i rows) ≡ 0 → m ≤ only (source_of a) remaining (get_or rows i blank)
        → j < length rows → sum_by (only t remaining) (take j rows) ≡ 0 → m ≤ only t remaining (get_or rows j blank)
        → transfer i j m rows ≡ pay t a m rows
    unfolding transfer pay
    transfer-pay rows i j m hi zi li hj zj lj =
        let s : Test = source_of a in
        let e : allocate s m rows ≡ set rows i (settle_more (get_or rows i blank) m) = allocate-first s m rows i hi zi li in
        rw (← e) (sym (allocate-first t m (allocate s m rows) j (rw length-allocate hj)
        (rw (take-allocate, other-allocate s t remaining k.no-source k.steady) zj)
        (rw (remaining-allocate-at s t k.no-source k.steady m rows j) lj)))

    -- at row i and row j: what source i has and debit j wants, the lesser of the two or a part of it, changes hands
    module _ (old rows : List Row) (i j p m : ℕ) (w : Paying t a old rows i j p)
        (hi : i < length rows) (li : m ≤ only (source_of a) remaining (get_or rows i blank))
        (hj : j < length rows) (lj : m ≤ only t remaining (get_or rows j blank)) where
      transferred : transfer i j m rows ≡ pay t a m rows
      transferred = transfer-pay rows i j m hi w.sources li hj w.debits lj

      pub paying-transfer : Paying t a old (transfer i j m rows) i j (p + m)
      unfolding moved_to money
      paying-transfer =
          rw transferred
          (paying-pay old rows i j p m w (omega (arith, sum_by-at-le (only (source_of a) remaining) rows i blank hi, sum_by-at-le (only t remaining) rows j blank hj)))

      -- what source i has remaining after the turn
      pub source-after : only (source_of a) remaining (get_or (transfer i j m rows) i blank) ≡ only (source_of a) remaining (get_or rows i blank) - m
      unfolding pay
      source-after = rw (transferred, remaining-allocate-at t (source_of a) rank-source (source-steady a))
          (remaining-first (source_of a) (source-steady a) m rows i w.sources)
