-- Laws of the six sums of each account in one array: none before the first row, and those of one row more once it is added.
use Prim.Native.Nat.{ℕ, zero, suc, ◌+◌, ◌≤◌, ◌<◌}
use native.Mathlib.Nat.{add-zero}
use native.Mathlib.Omega.{arith}
use native.Mathlib.Decide.{ℕ_discrete}
use mathlib.Core.Path.{◌≡◌, refl, ◌∙◌}
use mathlib.Core.Logic.{◌≢◌}
use mathlib.Core.Bool.{Bool, true, false, cond, not, ◌&&◌}
use mathlib.Core.List.{List}
use lib.IntN.{ℤ}
use lib.ListN.{get_or, set, replicate, length-set, length-replicate}
use lib.Seq.{get_or-set_same, get_or-set_other}
use Rattle.lists.specs.Lists.{sum_by, tabulate}
use Rattle.lists.proofs.SumLaws.{sum_by-more}
use Rattle.records.specs.Encoding.{row_at, rows_of}
use Rattle.records.specs.Limits.{most_rows, most_accounts, highest_refund, slot_count}
use Rattle.rules.specs.Rows.{Row, remaining, source, debit, held}
use Rattle.account_sums.specs.declared.Sums.{Sums}
use Rattle.account_sums.specs.Tallies.{return_of, drawn_of, money_of, paid_of, debt_of, owed_of}
use Rattle.account_sums.specs.AccountSums.{no_sums, sums_over, Low, Tallies, Small, sourced, debited, with_source, with_debit, Addable}
use Rattle.account_sums.proofs.SumsLaws.{part-le, share-own, share_other, returned_check, share-return, share-drawn, share-money, share-paid, share-debt, share-owed, source-no-debit, no-source-return}

-- ---- one row more

-- what a row adds to the sums of account n
unfoldable share_of : List Row → ℕ → Row → Sums
share_of all n r = record {
  returned = return_of n r;
  drawn = drawn_of n r;
  money = money_of n r;
  paid = paid_of n r;
  debt = debt_of all n r;
  owed = owed_of n r;
}

abbrev plus : Sums → Sums → Sums
plus s x = record {
  returned = s.returned + x.returned;
  drawn = s.drawn + x.drawn;
  money = s.money + x.money;
  paid = s.paid + x.paid;
  debt = s.debt + x.debt;
  owed = s.owed + x.owed;
}

plus-none : (s : Sums) → plus s no_sums ≡ s
plus-none s = simp add-zero

sums-more : (all : List Row) (t : List ℤ) (i n : ℕ) → sums_over all (rows_of t (i + 1)) n ≡ plus (sums_over all (rows_of t i) n) (share_of all n (row_at t i))
unfolding sums_over share_of
sums-more all t i n =
    rw (
      sum_by-more (return_of n) (row_at t) i,
      sum_by-more (drawn_of n) (row_at t) i,
      sum_by-more (money_of n) (row_at t) i,
      sum_by-more (paid_of n) (row_at t) i,
      sum_by-more (debt_of all n) (row_at t) i,
      sum_by-more (owed_of n) (row_at t) i,
    )

-- to another account it adds nothing
share-none : (all : List Row) (n : ℕ) (r : Row) → n ≢ r.account → share_of all n r ≡ no_sums
unfolding share_of
share-none all n r q =
    rw (
      share_other return_of returned_check (λ r. 1) share-return n r q,
      share_other drawn_of source (λ r. r.settled) share-drawn n r q,
      share_other money_of source remaining share-money n r q,
      share_other paid_of debit (λ r. r.settled) share-paid n r q,
      share_other (debt_of all) (λ r. debit r && not (held all r)) remaining (share-debt all) n r q,
      share_other owed_of debit remaining share-owed n r q,
    )

-- to its own
share-is : (all : List Row) (r : Row) → share_of all r.account r ≡ record {
  returned = cond (returned_check r) 1 0;
  drawn = cond (source r) r.settled 0;
  money = cond (source r) (remaining r) 0;
  paid = cond (debit r) r.settled 0;
  debt = cond (debit r && not (held all r)) (remaining r) 0;
  owed = cond (debit r) (remaining r) 0;
}
unfolding share_of
share-is all r =
    rw (
      share-own return_of returned_check (λ r. 1) share-return r.account r refl,
      share-own drawn_of source (λ r. r.settled) share-drawn r.account r refl,
      share-own money_of source remaining share-money r.account r refl,
      share-own paid_of debit (λ r. r.settled) share-paid r.account r refl,
      share-own (debt_of all) (λ r. debit r && not (held all r)) remaining (share-debt all) r.account r refl,
      share-own owed_of debit remaining share-owed r.account r refl,
    )

source-share : (all : List Row) (s : Sums) (r : Row) (b : Bool) → b ≡ returned_check r → source r ≡ true → sourced s r b ≡ plus s (share_of all r.account r)
source-share all s r b q h = let d = source-no-debit r h in rw (share-is all r, q, h, d) (simp add-zero)

debit-share : (all : List Row) (s : Sums) (r : Row) (b : Bool) → b ≡ held all r → source r ≡ false → debit r ≡ true → debited s r b ≡ plus s (share_of all r.account r)
debit-share all s r b q h g = let d = no-source-return r h in rw (share-is all r, q, d, h, g) (simp add-zero)

-- ---- no sum is above what the rows can come to

low-more : (s : Sums) (i : ℕ) → Low s i → Low s (i + 1)
low-more s i l =
    record { returned = omega (arith, l.returned); drawn = omega (arith, l.drawn); money = omega (arith, l.money); paid = omega (arith, l.paid); debt = omega (arith, l.debt); owed = omega (arith, l.owed) }

low-sourced : (s : Sums) (i : ℕ) (r : Row) (b : Bool) → Low s i → Small r → Low (sourced s r b) (i + 1)
low-sourced s i r b l a =
    let p = part-le b 1 highest_refund (omega arith) in
    record { returned = omega (arith, l.returned, p); drawn = omega (arith, l.drawn, a.amount, a.settled); money = omega (arith, l.money, a.amount); paid = omega (arith, l.paid); debt = omega (arith, l.debt); owed = omega (arith, l.owed) }

low-debited : (s : Sums) (i : ℕ) (r : Row) (b : Bool) → Low s i → Small r → Low (debited s r b) (i + 1)
low-debited s i r b l a =
    let p = part-le (not b) (remaining r) highest_refund (omega (arith, a.amount)) in
    record { returned = omega (arith, l.returned); drawn = omega (arith, l.drawn); money = omega (arith, l.money); paid = omega (arith, l.paid, a.amount, a.settled); debt = omega (arith, l.debt, p); owed = omega (arith, l.owed, a.amount) }

-- ---- the array

none : (a n : ℕ) → get_or (replicate a no_sums) n no_sums ≡ no_sums
none zero n = refl
none (suc a) zero = refl
none (suc a) (suc n) = none a n

pub tallies-none : (t : List ℤ) (used : ℕ) → Tallies t used (replicate slot_count no_sums) 0
unfolding sums_over sum_by tabulate
tallies-none t used = record { sized = length-replicate slot_count no_sums; low = λ n. rw (none slot_count n) (record { returned = omega arith; drawn = omega arith; money = omega arith; paid = omega arith; debt = omega arith; owed = omega arith }); each = λ n b. none slot_count n }

-- a row that can be added, where the sums are of fewer rows than there can be
pub addable : (t : List ℤ) (used : ℕ) (s : List Sums) (i : ℕ) → Tallies t used s i → i ≤ most_rows → (r : Row) → r.account ≤ most_accounts → r.amount ≤ highest_refund → r.settled ≤ r.amount → Addable s r
addable t used s i w h r a b c = record { slot = a; small = record { amount = b; settled = c }; low = λ n. go (get_or s n no_sums) (w.low n) }
  where
    go : (x : Sums) → Low x i → Low x most_rows
    go x l = record { returned = omega (arith, l.returned); drawn = omega (arith, l.drawn); money = omega (arith, l.money); paid = omega (arith, l.paid); debt = omega (arith, l.debt); owed = omega (arith, l.owed) }

module _ (t : List ℤ) (used : ℕ) (s : List Sums) (i : ℕ) (w : Tallies t used s i) (r : Row) (e : r ≡ row_at t i) (a : Addable s r) where
  abbrev old : Sums
  old = get_or s r.account no_sums

  -- the account's sums become x, which has the row's share more
  tallies-more : (x : Sums) → x ≡ plus old (share_of (rows_of t used) r.account r) → Low x (i + 1) → Tallies t used (set s r.account x) (i + 1)
  tallies-more x q l =
      record {
        sized = length-set s r.account x ∙ w.sized;
        low = λ n.
            elim (ℕ_discrete n r.account) [
              | yes z ↦ rw (z, same) l
              | no z ↦ rw (get_or-set_other s r.account n x no_sums z) (low-more (get_or s n no_sums) i (w.low n))
            ];
        each = λ n b.
            elim (ℕ_discrete n r.account) [
              | yes z ↦ rw (z, same, sums-more (rows_of t used) t i r.account, ← w.each r.account slot, ← e) q
              | no z ↦ rw (get_or-set_other s r.account n x no_sums z, sums-more (rows_of t used) t i n, ← w.each n b, ← e, share-none (rows_of t used) n r z, plus-none (get_or s n no_sums))
            ];
      }
    where
      slot : r.account < slot_count
      slot = omega (arith, a.slot)

      same : get_or (set s r.account x) r.account no_sums ≡ x
      same = get_or-set_same s r.account x no_sums (omega (arith, w.sized, a.slot))

  pub source-added : (returned : Bool) → returned ≡ returned_check r → source r ≡ true → Tallies t used (with_source s r returned) (i + 1)
  source-added returned q h = tallies-more _ (source-share (rows_of t used) old r returned q h) (low-sourced old i r returned (w.low r.account) a.small)

  pub debit-added : (kept : Bool) → kept ≡ held (rows_of t used) r → source r ≡ false → debit r ≡ true → Tallies t used (with_debit s r kept) (i + 1)
  debit-added kept q h g = tallies-more _ (debit-share (rows_of t used) old r kept q h g) (low-debited old i r kept (w.low r.account) a.small)
