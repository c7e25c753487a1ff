-- Laws of the fees that name a row.
use Prim.Native.Nat.{ℕ, zero, suc, ◌+◌, ◌-◌, ◌≤◌, ◌<◌}
use native.Mathlib.Omega.{arith}
use native.Mathlib.Decide.{dec_lt, ℕ_discrete}
use mathlib.Core.Path.{◌≡◌, refl, sym, ◌∙◌}
use mathlib.Core.Bool.{Bool, true, false, cond, true≢false}
use mathlib.Core.List.{List}
use lib.Dec.{leb, ltb}
use borrow.Author.Tests.{eq-eqb, ne_eqb, le-leb, lt-leb, lt-ltb, le-ltb, leb-false}
use lib.IntN.{ℤ}
use lib.ListN.{get_or, set, replicate}
use lib.Seq.{get_or-set_same, get_or-set_other}
use Rattle.lists.specs.Tests.{◌implies◌}
use Rattle.lists.specs.Lists.{sum_by, count, tabulate}
use Rattle.lists.proofs.ListLaws.{every-tabulate, every-fails, numbered-at, zeros}
use Rattle.lists.proofs.SumLaws.{sum_by-more}
use Rattle.records.specs.Encoding.{row_at, rows_of}
use Rattle.rules.specs.Rows.{Row, kind_fee, toll, fee_naming, row_no, blank}
use Rattle.rules.specs.Soundness.{fees_fit}
use Rattle.account_sums.specs.Tallies.{Tallied}
use Rattle.sound_fees.specs.Fees.{fees_few, fee_of, fees_within, FeesCounted}
use Rattle.account_sums.proofs.TallyLaws.{tallied-none, tallied-skip, tallied-add, tallied-small}

not-fee : (n : ℕ) (r : Row) → (r.kind ≡ kind_fee → ⊥) → fee_of n r ≡ 0
unfolding fee_of fee_naming
not-fee n r q = simp (ne_eqb _ _ q)

not_named : (n : ℕ) (r : Row) → r.kind ≡ kind_fee → (r.reference ≡ n → ⊥) → fee_of n r ≡ 0
unfolding fee_of fee_naming
not_named n r p q = simp (eq-eqb _ _ p, ne_eqb _ _ q)

named : (r : Row) → r.kind ≡ kind_fee → fee_of r.reference r ≡ 1
unfolding fee_of fee_naming
named r p = simp (eq-eqb _ _ p, eq-eqb r.reference r.reference refl)

fee-le : (n : ℕ) (r : Row) → fee_of n r ≤ 1
unfolding fee_of
fee-le n r = go (fee_naming n r)
  where
    go : (b : Bool) → cond b 1 0 ≤ 1
    go true = omega arith
    go false = omega arith

-- ---- the test of a row

-- at most k - 1, with none at 0
fees-none : (r : Row) → fees_within 0 r ≡ true
unfolding fees_within
fees-none r = go (toll r)
  where
    go : (b : Bool) → (b implies leb 0 (r.mark - 1)) ≡ true
    go true = le-leb 0 (r.mark - 1) (omega arith)
    go false = refl

pub fewer : (c k : ℕ) → (c ≡ 0 → ⊥) → ltb c k ≡ leb c (k - 1)
fewer c k q =
    elim (dec_lt c k) [
      | yes h ↦ simp (lt-ltb c k h, le-leb c (k - 1) (omega arith))
      | no h ↦ simp (le-ltb c k (omega arith), lt-leb c (k - 1) (omega arith))
    ]

-- as the code tests it: one fee at least, and fewer than the stage
pub few-within : (c : ℕ) (r : Row) → (c ≡ 0 → ⊥) → (toll r implies ltb c r.mark) ≡ fees_within c r
unfolding fees_within
few-within c r q = rw (fewer c r.mark q)

-- more fees than too many are too many
more-over : (c d : ℕ) (r : Row) → c ≤ d → fees_within c r ≡ false → fees_within d r ≡ false
unfolding fees_within
more-over c d r h e = go (toll r) e
  where
    go : (b : Bool) → (b implies leb c (r.mark - 1)) ≡ false → (b implies leb d (r.mark - 1)) ≡ false
    go true e = lt-leb d (r.mark - 1) (omega (arith, leb-false c (r.mark - 1) e))
    go false e = absurd (true≢false e)

-- the clause, by the count
fits-within : (rows : List Row) (n : ℕ) (r : Row) → fees_fit rows n r ≡ fees_within (sum_by (fee_of n) rows) r
unfolding fees_fit fees_within count fee_of
fits-within rows n r = refl

-- no row is no toll
blank-within : (c : ℕ) → fees_within c blank ≡ true
unfolding fees_within
blank-within c = refl

-- ---- the count

sum-longer : (f : Row → ℕ) (g : ℕ → Row) (n d : ℕ) → sum_by f (tabulate g n) ≤ sum_by f (tabulate g (n + d))
sum-longer f g n zero = let e : n + zero ≡ n = omega arith in rw e (omega arith)
sum-longer f g n (suc d) = let e : n + suc d ≡ n + d + 1 = omega arith in rw e (omega (arith, sum-longer f g n d, sum_by-more f g (n + d)))

pub counted_none : (space : ℕ) (t : List ℤ) (a : ℕ) → a ≡ space + 1 → FeesCounted space t (replicate a 0) 0
counted_none space t a e = record { tallied = rw (← e) (tallied-none fee_of a t); within = λ k. rw (zeros a (k + 1)) (fees-none (row_at t k)) }

module _ (space : ℕ) (t : List ℤ) (xs : List ℕ) (i : ℕ) (s : FeesCounted space t xs i) where
  -- a row that is no fee
  pub counted_skip : ((row_at t i).kind ≡ kind_fee → ⊥) → FeesCounted space t xs (i + 1)
  counted_skip q = record { tallied = tallied-skip fee_of (space + 1) t xs i s.tallied (λ n b. not-fee n _ q); within = s.within }

  pub counts-fit : (n : ℕ) → n ≤ space → i < 8192 → get_or xs n 0 < 8192
  counts-fit n b d = omega (arith, tallied-small fee_of (space + 1) t 1 xs i n s.tallied (omega arith) (λ k q. fee-le n (row_at t k)))

  -- a fee that names row number n of the used ones
  module _ (used n : ℕ) (p : (row_at t i).kind ≡ kind_fee) (e : n ≡ (row_at t i).reference) (b : n ≤ used) (h : used ≤ space) where
    tallied-fee : Tallied fee_of (space + 1) t (set xs n (get_or xs n 0 + 1)) (i + 1)
    tallied-fee = tallied-add fee_of (space + 1) t xs i n 1 s.tallied (omega arith) (rw e (sym (named _ p))) (λ m q. not_named m _ p (λ w. q (sym w ∙ sym e)))

    pub counted-fee : fees_within (get_or xs n 0 + 1) (row_no (rows_of t used) n) ≡ true → FeesCounted space t (set xs n (get_or xs n 0 + 1)) (i + 1)
    counted-fee f =
        record {
          tallied = tallied-fee;
          within = λ k.
              elim (ℕ_discrete (k + 1) n) [
                | yes z ↦
                    let y : n - 1 ≡ k = omega arith in
                    rw (z, get_or-set_same xs n (get_or xs n 0 + 1) 0 (omega (arith, s.tallied.sized))) (rw (numbered-at (row_at t) used n blank (λ w. omega arith) b, y) at f)
                | no z ↦ rw (get_or-set_other xs n (k + 1) (get_or xs n 0 + 1) 0 z) (s.within k)
              ];
        }

    -- and one too many
    pub counted-over : i < used → fees_within (get_or xs n 0 + 1) (row_no (rows_of t used) n) ≡ false → fees_few (rows_of t used) ≡ false
    unfolding fees_few
    counted-over d f =
        elim (ℕ_discrete n 0) [
          | yes z ↦ absurd (true≢false (sym (blank-within (get_or xs 0 0 + 1)) ∙ (rw z at f)))
          | no z ↦
              let y : n - 1 + 1 ≡ n = omega arith in
              let x : used ≡ i + 1 + (used - (i + 1)) = omega arith in
              let same = get_or-set_same xs n (get_or xs n 0 + 1) 0 (omega (arith, s.tallied.sized)) in
              let more : get_or xs n 0 + 1 ≤ sum_by (fee_of n) (rows_of t used) = rw x (omega (arith, same, tallied-fee.each n (omega arith), sum-longer (fee_of n) (row_at t) (i + 1) (used - (i + 1)))) in
              every-fails (fees_fit (rows_of t used)) (row_at t) used (n - 1) (omega arith)
              (rw (y, fits-within (rows_of t used) n (row_at t (n - 1))) (more-over (get_or xs n 0 + 1) (sum_by (fee_of n) (rows_of t used)) (row_at t (n - 1)) more (rw (numbered-at (row_at t) used n blank z b) at f)))
        ]

-- all counted: none has too many
pub fees-few : (space : ℕ) (t : List ℤ) (xs : List ℕ) (used : ℕ) → used ≤ space → FeesCounted space t xs used → fees_few (rows_of t used) ≡ true
unfolding fees_few
fees-few space t xs used h s =
    every-tabulate (fees_fit (rows_of t used)) (row_at t) used (λ k b. rw (fits-within (rows_of t used) (k + 1) (row_at t k), ← s.tallied.each (k + 1) (omega arith)) (s.within k))
