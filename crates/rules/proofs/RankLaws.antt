-- Laws of the settlement of one rank: what an account's money pays of the debits that pass a test.
use mathlib.Core.Path.{◌≡◌, refl, ap, ◌∙◌}
use mathlib.Core.Bool.{Bool, true, false, not, cond, ◌&&◌, ◌||◌, true≢false}
use Prim.Native.Nat.{ℕ, ◌+◌, ◌-◌, ◌≤◌}
use native.Mathlib.Omega.{arith}
use mathlib.Core.List.{List, map}
use lib.ListN.{length, get_or}
use lib.Dec.{eqb}
use borrow.Author.Tests.{eqb-true}
use Rattle.lists.specs.Lists.{sum_by, only}
use Rattle.rules.specs.Rows.{Row, Test, blank, source, debit, source_of, debit_of, remaining, settle_more}
use Rattle.rules.specs.Settlement.{allocate, money, moved_to, pay, settle_rank, used, paid, owed}
use Rattle.rules.proofs.AllocationLaws.{bare, Steady, Apart, Within, within-self, settle_more-zero, settle_more-settle_more, share, allocate-zero, allocate-allocate, allocate-comm, remaining-allocate, settled-allocate, other-allocate, map-allocate, length-allocate, allocate-at, apart-remaining, share-le, share_other}

-- ---- the test of a rank

-- it does not look at what is settled, no source of the account passes it, and what passes it is a debit of the account
pub record Rank (a : ℕ) (t : Test) : Type 0 where
  pub steady : Steady t
  pub no-source : Apart (source_of a) t
  pub debits : Within t (debit_of a)

pub source-steady : (a : ℕ) → Steady (source_of a)
unfolding source_of
source-steady a r n = refl

pub debit-steady : (a : ℕ) → Steady (debit_of a)
unfolding debit_of
debit-steady a r n = refl

pub kinds-apart : (k : ℕ) → (eqb k 4 || eqb k 5) && (eqb k 1 || eqb k 2 || eqb k 3 || eqb k 6) ≡ false
kinds-apart k = go (eqb k 4) (eqb k 5) refl refl
  where
    go : (b c : Bool) → eqb k 4 ≡ b → eqb k 5 ≡ c → (b || c) && (eqb k 1 || eqb k 2 || eqb k 3 || eqb k 6) ≡ false
    go true c e f = rw (eqb-true k 4 e)
    go false true e f = rw (eqb-true k 5 f)
    go false false e f = refl

pub source-debit : (a : ℕ) → Apart (source_of a) (debit_of a)
unfolding source_of debit_of
source-debit a r = go (eqb r.account a) (source r) (debit r) (kinds-apart r.kind)
  where
    go : (x s d : Bool) → s && d ≡ false → (x && s) && (x && d) ≡ false
    go true s d e = e
    go false s d e = refl

-- what is apart from u is apart from what is within u
pub apart-within : (s t u : Test) → Apart s u → Within t u → Apart s t
apart-within s t u a w r = go (s r) (t r) (u r) (a r) (w r)
  where
    go : (x y z : Bool) → x && z ≡ false → y && not z ≡ false → x && y ≡ false
    go true true true e f = e
    go true true false e f = absurd (true≢false f)
    go true false z e f = refl
    go false y z e f = refl

pub apart-swap : (t u : Test) → Apart t u → Apart u t
apart-swap t u a r = go (t r) (u r) (a r)
  where
    go : (b c : Bool) → b && c ≡ false → c && b ≡ false
    go true true e = e
    go true false e = refl
    go false true e = refl
    go false false e = refl

pub other-source : (a : ℕ) (r : Row) → eqb r.account a ≡ false → only (source_of a) remaining r ≡ 0
unfolding only source_of
other-source a r e = rw e

-- ---- n paid

-- what settlement does to one row
pub record Settled (a : ℕ) (r s : Row) : Type 0 where
  pub kept : bare s ≡ bare r
  pub grows : r.settled ≤ s.settled
  pub fits : r.settled ≤ r.amount → s.settled ≤ s.amount
  pub others : eqb r.account a ≡ false → s ≡ r

settle_more-settled : (a : ℕ) (r : Row) (n : ℕ) → n ≤ remaining r → (eqb r.account a ≡ false → n ≡ 0) → Settled a r (settle_more r n)
settle_more-settled a r n h o = record {
  kept = refl;
  grows = omega arith;
  fits = omega arith;
  others = λ e. rw (o e, settle_more-zero r);
}

module _ (t : Test) (a : ℕ) where
  pub pay-zero : (rows : List Row) → pay t a 0 rows ≡ rows
  unfolding pay
  pay-zero rows = rw (allocate-zero (source_of a) rows, allocate-zero t rows)

  -- every field but `settled` stays, and so does the length
  pub bare-pay : (n : ℕ) (rows : List Row) → map bare (pay t a n rows) ≡ map bare rows
  unfolding pay
  bare-pay n rows = map-allocate bare (λ r k. refl) t n (allocate (source_of a) n rows) ∙ map-allocate bare (λ r k. refl) (source_of a) n rows

  pub length-pay : (n : ℕ) (rows : List Row) → length (pay t a n rows) ≡ length rows
  unfolding pay
  length-pay n rows = simp length-allocate

  -- what no source of the account passes and no row of the rank stays
  pub other-pay : (u : Test) (f : Row → ℕ) → Apart (source_of a) u → Apart t u → Steady u → (n : ℕ) (rows : List Row)
      → sum_by (only u f) (pay t a n rows) ≡ sum_by (only u f) rows
  unfolding pay
  other-pay u f p q s n rows = other-allocate t u f q s n (allocate (source_of a) n rows) ∙ other-allocate (source_of a) u f p s n rows

  module _ (k : Rank a t) where
    rank-source : Apart t (source_of a)
    rank-source = apart-swap (source_of a) t k.no-source

    other-rank : (r : Row) → eqb r.account a ≡ false → only t remaining r ≡ 0
    unfolding only debit_of
    other-rank r e = go (t r) (eqb r.account a) (debit r) e (k.debits r)
      where
        go : (x y d : Bool) → y ≡ false → x && not (y && d) ≡ false → ◌≡◌ {A = ℕ} (cond x (remaining r) 0) 0
        go true true d q w = absurd (true≢false q)
        go true false d q w = absurd (true≢false w)
        go false y d q w = refl

    -- two payments are one of their sum
    pub pay-pay : (m n : ℕ) (rows : List Row) → pay t a n (pay t a m rows) ≡ pay t a (m + n) rows
    unfolding pay
    pay-pay m n rows =
        let s : Test = source_of a in
        rw (
          allocate-comm t s k.steady (source-steady a) rank-source k.no-source m n (allocate s m rows),
          allocate-allocate s (source-steady a) m n rows,
          allocate-allocate t k.steady m n,
        )

    pub money-pay : (n : ℕ) (rows : List Row) → money a (pay t a n rows) ≡ money a rows - n
    unfolding pay money
    money-pay n rows =
        let s : Test = source_of a in
        let e = other-allocate t s remaining rank-source (source-steady a) n (allocate s n rows) in
        let f = remaining-allocate s s (within-self s) (source-steady a) n rows in
        omega arith

    pub wanted-pay : (n : ℕ) (rows : List Row) → sum_by (only t remaining) (pay t a n rows) ≡ sum_by (only t remaining) rows - n
    unfolding pay
    wanted-pay n rows =
        let s : Test = source_of a in
        let e = remaining-allocate t t (within-self t) k.steady n (allocate s n rows) in
        let f = other-allocate s t remaining k.no-source k.steady n rows in
        omega arith

    pub moved-pay : (n : ℕ) (rows : List Row) → moved_to t a (pay t a n rows) ≡ moved_to t a rows - n
    unfolding moved_to
    moved-pay n rows = omega (arith, money-pay n rows, wanted-pay n rows)

    -- ---- the rank settled

    -- a part of the money paid first changes nothing
    pub settle_rank-pay : (n : ℕ) (rows : List Row) → n ≤ moved_to t a rows → settle_rank t a (pay t a n rows) ≡ settle_rank t a rows
    unfolding settle_rank
    settle_rank-pay n rows h =
        rw (moved-pay n rows, pay-pay n (moved_to t a rows - n) rows) (ap {B = List Row} (λ (m : ℕ). pay t a m rows) (omega arith))

    -- the identity where there is nothing to move or to pay
    pub settle_rank-same : (rows : List Row) → moved_to t a rows ≡ 0 → settle_rank t a rows ≡ rows
    unfolding settle_rank
    settle_rank-same rows e = rw e (pay-zero rows)

    -- what remains on either side, and what is settled
    pub record RankMoves (rows new : List Row) (m : ℕ) : Type 0 where
      pub money : money a new + m ≡ money a rows
      pub wanted : sum_by (only t remaining) new + m ≡ sum_by (only t remaining) rows
      pub used : used a new ≡ used a rows + m
      pub paid : paid a new ≡ paid a rows + m
      pub owed : owed a new + m ≡ owed a rows

    pub settle_rank-moves : (rows : List Row) → RankMoves rows (settle_rank t a rows) (moved_to t a rows)
    unfolding settle_rank moved_to pay money used paid owed
    settle_rank-moves rows =
        let s : Test = source_of a in
        let d : Test = debit_of a in
        let p : ℕ = moved_to t a rows in
        let mid : List Row = allocate s p rows in
        let m = money-pay p rows in
        let w = wanted-pay p rows in
        let s₁ = other-allocate t s (λ r. r.settled) rank-source (source-steady a) p mid in
        let s₂ = settled-allocate s s (within-self s) (source-steady a) p rows in
        let d₁ = settled-allocate t d k.debits (debit-steady a) p mid in
        let d₂ = other-allocate s d (λ r. r.settled) (source-debit a) (debit-steady a) p rows in
        let o₁ = remaining-allocate t d k.debits (debit-steady a) p mid in
        let o₂ = other-allocate s d remaining (source-debit a) (debit-steady a) p rows in
        let g = other-allocate s t remaining k.no-source k.steady p rows in
        record { money = omega arith; wanted = omega arith; used = omega arith; paid = omega arith; owed = omega arith }

    -- row i takes its share of what is moved: as a source or as a debit, one of which is none
    settle_rank-at : (rows : List Row) (i : ℕ) → get_or (settle_rank t a rows) i blank
        ≡ settle_more (get_or rows i blank) (share (source_of a) (moved_to t a rows) rows i + share t (moved_to t a rows) rows i)
    unfolding settle_rank pay
    settle_rank-at rows i =
        let s : Test = source_of a in
        let p : ℕ = moved_to t a rows in
        rw (allocate-at t p (allocate s p rows) i, share_other s t k.no-source k.steady p p rows i, allocate-at s p rows i, settle_more-settle_more (get_or rows i blank))

    pub settle_rank-row : (rows : List Row) (i : ℕ) → Settled a (get_or rows i blank) (get_or (settle_rank t a rows) i blank)
    settle_rank-row rows i =
        let s : Test = source_of a in
        let p : ℕ = moved_to t a rows in
        let r : Row = get_or rows i blank in
        let g = share-le s p rows i in
        let h = share-le t p rows i in
        rw settle_rank-at (settle_more-settled a r (share s p rows i + share t p rows i)
        (omega (arith, apart-remaining s t k.no-source r))
        (λ o. omega (arith, other-source a r o, other-rank r o)))

    -- a row that has nothing and wants nothing stays
    pub settle_rank-still : (rows : List Row) (i : ℕ)
        → only (source_of a) remaining (get_or rows i blank) ≡ 0 → only t remaining (get_or rows i blank) ≡ 0
        → get_or (settle_rank t a rows) i blank ≡ get_or rows i blank
    settle_rank-still rows i x y =
        let z : share (source_of a) (moved_to t a rows) rows i + share t (moved_to t a rows) rows i ≡ 0 =
        omega (arith, x, y, share-le (source_of a) (moved_to t a rows) rows i, share-le t (moved_to t a rows) rows i) in
        rw (settle_rank-at rows i, z, settle_more-zero (get_or rows i blank))
