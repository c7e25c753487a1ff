-- What a nearly sound book says of the account and of the row that an event names, and the laws of changing just these.
use mathlib.Core.Path.{◌≡◌}
use mathlib.Core.Bool.{Bool, true, false, not, ◌&&◌, ◌||◌, false≢true}
use Prim.Native.Nat.{ℕ, zero, suc, ◌-◌, ◌≤◌, ◌<◌}
use native.Mathlib.Omega.{arith}
use native.Mathlib.Decide.{dec_lt}
use lib.ListN.{length, get_or, get_or-eq_default}
use lib.Seq.{get_or-set_same}
use lib.Dec.{eqb, leb}
use borrow.Author.Tests.{leb-true, le-leb, ltb-false, eqb-true, not-false}
use Rattle.lists.specs.Tests.{◌from◌to◌}
use Rattle.lists.proofs.TestLaws.{and_left, and_right, and_both, or_left, or_right}
use Rattle.records.specs.Limits.{final_day}
use Rattle.rules.specs.Rows.{Row, blank}
use Rattle.rules.specs.Book.{Account, unused, Instruction, Book, account, row, put_account, put_row}
use Rattle.rules.specs.Opening.{day_fits}
use Rattle.rules.specs.Soundness.{successor_fits}
use Rattle.rules.specs.Refusals.{change_of, after, full}
use Rattle.rules.specs.SoundFacts.{Shape, Live, Standing, SumsFit, Near}
use Rattle.preservation.proofs.SettledLaws.{length-settled}
use Rattle.preservation.proofs.KeepingLaws.{near-account, core, near-put-core}

module _ (past : ℕ) (b : Book) (s : Near past b) where
  -- ---- the day

  pub day-from : leb 1 b.day ≡ true
  unfolding day_fits
  day-from = and_left (leb 1 b.day) (leb b.day final_day) s.day

  pub day-positive : 1 ≤ b.day
  day-positive = leb-true 1 b.day day-from

  -- a row of today
  pub today-fits : b.day from 1 to b.day ≡ true
  today-fits = and_both (leb 1 b.day) (leb b.day b.day) day-from (le-leb b.day b.day (omega arith))

  -- ---- the account of a number in the table

  pub standing-of : (n : ℕ) → n from 1 to length b.accounts ≡ true → Standing b.day (account b n)
  standing-of zero i = absurd (false≢true i)
  standing-of (suc k) i = s.standing k (leb-true (suc k) (length b.accounts) (and_right (leb 1 (suc k)) _ i))

  pub counted_of : (n : ℕ) → n from 1 to length b.accounts ≡ true → SumsFit b.rows n (account b n)
  counted_of zero i = absurd (false≢true i)
  counted_of (suc k) i = s.counted k (leb-true (suc k) (length b.accounts) (and_right (leb 1 (suc k)) _ i))

  pub successor_of : (n : ℕ) → n from 1 to length b.accounts ≡ true → successor_fits b.accounts n (account b n) ≡ true
  successor_of zero i = absurd (false≢true i)
  successor_of (suc k) i = s.successors k (leb-true (suc k) (length b.accounts) (and_right (leb 1 (suc k)) _ i))

  pub near-put_account : (n : ℕ) (x : Account) → n from 1 to length b.accounts ≡ true → eqb x.state 0 ≡ false
      → Standing b.day x → successor_fits b.accounts n x ≡ true → SumsFit b.rows n x → Near past (put_account n x b)
  near-put_account zero x i z v f c = absurd (false≢true i)
  near-put_account (suc k) x i z v f c =
      let q : suc k - 1 ≡ k = omega arith in
      rw q (near-account past b k x s (leb-true (suc k) (length b.accounts) (and_right (leb 1 (suc k)) _ i)) z v f c)

  pub account-put : (n : ℕ) (x : Account) → n from 1 to length b.accounts ≡ true → account (put_account n x b) n ≡ x
  account-put zero x i = absurd (false≢true i)
  account-put (suc k) x i =
      let q : suc k - 1 ≡ k = omega arith in
      rw q (get_or-set_same b.accounts k x unused (leb-true (suc k) (length b.accounts) (and_right (leb 1 (suc k)) _ i)))

  -- ---- the row of a number, where it has a kind

  pub there : (j : ℕ) → 0 < (get_or b.rows j blank).kind → j < length b.rows
  there j h =
      elim (dec_lt j (length b.rows)) [
        | yes l ↦ l
        | no q ↦ let l : length b.rows ≤ j = omega arith in
            let z : (get_or b.rows j blank).kind ≡ 0 = rw (get_or-eq_default b.rows blank l) in absurd (omega arith)
      ]

  pub shape_of : (n : ℕ) → 0 < (row b n).kind → Shape b.day b.accounts b.rows n (row b n)
  shape_of zero h = absurd (omega arith)
  shape_of (suc j) h = s.shape j (there j h)

  pub live_of : (n : ℕ) → 0 < (row b n).kind → Live past b.day b.schedule.stage (row b n)
  live_of zero h = absurd (omega arith)
  live_of (suc j) h = s.live j (there j h)

  pub near-put_row : (n : ℕ) (r : Row) → 0 < (row b n).kind → core r ≡ core (row b n) → Shape b.day b.accounts b.rows n r
      → Live past b.day b.schedule.stage r → Near past (put_row n r b)
  near-put_row zero r h same w v = absurd (omega arith)
  near-put_row (suc j) r h same w v =
      let q : suc j - 1 ≡ j = omega arith in
      rw q (near-put-core past b j r s (there j h) same w v)

-- ---- what the refusals 3, 10 and 13 leave

pub named-kind : (b : Book) (a n k : ℕ) → not (eqb (row b a).kind k && eqb (row b a).account n) ≡ false → (row b a).kind ≡ k
named-kind b a n k e = eqb-true (row b a).kind k (and_left (eqb (row b a).kind k) (eqb (row b a).account n) (not-false _ e))

pub named-account : (b : Book) (a n k : ℕ) → not (eqb (row b a).kind k && eqb (row b a).account n) ≡ false → (row b a).account ≡ n
named-account b a n k e = eqb-true (row b a).account n (and_right (eqb (row b a).kind k) (eqb (row b a).account n) (not-false _ e))

pub inside : (n m : ℕ) (t : Bool) → not (n from 1 to m) || t ≡ false → n from 1 to m ≡ true
inside n m t e = not-false (n from 1 to m) (or_left (not (n from 1 to m)) t e)

pub used-state : (n m : ℕ) (t : Bool) → not (n from 1 to m) || t ≡ false → t ≡ false
used-state n m t e = or_right (not (n from 1 to m)) t e

pub after-fits : (b : Book) (e : Instruction) → full b e ≡ false → length (change_of e.kind b e).rows ≤ b.room
unfolding full after
after-fits b e f = omega (arith, ltb-false b.room (length (after b e).rows) f, length-settled (change_of e.kind b e))
