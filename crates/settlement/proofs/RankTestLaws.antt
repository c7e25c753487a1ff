-- The two ranks of settlement: each is a rank in the sense of the rules and a part of what is payable, and payments do not change it.
use mathlib.Core.Path.{◌≡◌, refl, fun_ext, ◌∙◌}
use mathlib.Core.Bool.{Bool, true, false, not, cond, ◌&&◌, true≢false}
use Prim.Native.Nat.{ℕ, ◌≤◌}
use native.Mathlib.Omega.{arith}
use mathlib.Core.List.{List}
use lib.ListN.{get_or}
use Rattle.lists.specs.Lists.{only}
use Rattle.lists.proofs.SumLaws.{sum_by_le}
use Rattle.rules.specs.Rows.{Row, Test, blank, remaining, source_of, payable, payable_toll, payable_rest}
use Rattle.rules.specs.Settlement.{allocate, debt, moved, moved_to, pay, settle_rank, settle_ranks, settle}
use Rattle.rules.proofs.AllocationLaws.{Steady, Within, share, only-settle_more, allocate-at}
use Rattle.rules.proofs.RankLaws as laws
use Rattle.rules.proofs.SettlementLaws.{minus, Parts, rank-within, payable-rank, ranks-part, payable-pay}
use Rattle.settlement.specs.declared.Rank.{Rank}
use Rattle.settlement.specs.declared.Rank.TheVariants.{Tolls, FeesAndReversals}
use Rattle.settlement.specs.Settling.{of_rank}

-- each is one of the parts of what is payable
of_rank-steady : (k : Rank) (rows : List Row) (a : ℕ) → Steady (of_rank k rows a)
unfolding of_rank Parts
of_rank-steady Tolls rows a = (ranks-part rows a).0
of_rank-steady FeesAndReversals rows a = (ranks-part rows a).2.0

of_rank-within : (k : Rank) (rows : List Row) (a : ℕ) → Within (of_rank k rows a) (payable rows a)
unfolding of_rank Parts minus
of_rank-within Tolls rows a = (ranks-part rows a).1
of_rank-within FeesAndReversals rows a = λ r.
    of_rest (payable_rest rows a r) (payable rows a r) (payable_toll rows a r) ((ranks-part rows a).2.1 r)
  where
    of_rest : (x y z : Bool) → x && not (y && not z) ≡ false → x && not y ≡ false
    of_rest true true z e = refl
    of_rest true false z e = e
    of_rest false y z e = refl

pub of_rank-rank : (k : Rank) (rows : List Row) (a : ℕ) → laws.Rank a (of_rank k rows a)
of_rank-rank k rows a = rank-within a (of_rank k rows a) (payable rows a) (payable-rank rows a) (of_rank-steady k rows a) (of_rank-within k rows a)

-- what is payable in a rank is payable
pub of_rank-le : (k : Rank) (rows : List Row) (a : ℕ) (r : Row) → only (of_rank k rows a) remaining r ≤ only (payable rows a) remaining r
unfolding only
of_rank-le k rows a r = go (of_rank k rows a r) (payable rows a r) (of_rank-within k rows a r)
  where
    go : (x y : Bool) → x && not y ≡ false → cond x (remaining r) 0 ≤ cond y (remaining r) 0
    go true true e = omega arith
    go true false e = absurd (true≢false e)
    go false y e = omega arith

pub of_rank-same : (k : Rank) (old rows : List Row) (a : ℕ) → payable rows a ≡ payable old a → of_rank k rows a ≡ of_rank k old a
unfolding of_rank payable_toll payable_rest
of_rank-same Tolls old rows a e = fun_ext λ r. rw e
of_rank-same FeesAndReversals old rows a e = fun_ext λ r. rw e

-- where nothing is to be moved, nothing is in a rank
pub moved-rank : (k : Rank) (rows : List Row) (a : ℕ) → moved a rows ≡ 0 → moved_to (of_rank k rows a) a rows ≡ 0
unfolding moved moved_to debt
moved-rank k rows a e = omega (arith, sum_by_le (only (of_rank k rows a) remaining) (only (payable rows a) remaining) rows (of_rank-le k rows a))

-- ---- a payment

-- no row wants more after it
pub wants-pay : (t u : Test) (a n : ℕ) → Steady u → (rows : List Row) (i : ℕ)
    → only u remaining (get_or (pay t a n rows) i blank) ≤ only u remaining (get_or rows i blank)
unfolding pay
wants-pay t u a n s rows i =
    let mid : List Row = allocate (source_of a) n rows in
    rw (allocate-at t n mid i) (omega (
      arith,
      only-settle_more u s (get_or mid i blank) (share t n mid i),
      first,
    ))
  where
    first : only u remaining (get_or (allocate (source_of a) n rows) i blank) ≤ only u remaining (get_or rows i blank)
    first = rw (allocate-at (source_of a) n rows i) (omega (arith, only-settle_more u s (get_or rows i blank) (share (source_of a) n rows i)))

-- both ranks one after the other, each as it stands when it is paid, are settlement
pub settle-both : (a : ℕ) (old mid new : List Row) → mid ≡ settle_rank (of_rank Tolls old a) a old
    → new ≡ settle_rank (of_rank FeesAndReversals mid a) a mid → new ≡ settle a old
unfolding settle settle_ranks of_rank
settle-both a old mid new e f =
    let p : payable mid a ≡ payable old a = rw e (unfold settle_rank in payable-pay (payable_toll old a) a a (moved_to (payable_toll old a) a old) old) in
    let q : payable_rest mid a ≡ payable_rest old a = of_rank-same FeesAndReversals old mid a p in
    f ∙ rw (q, e)
