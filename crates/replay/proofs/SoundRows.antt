-- What soundness says of a row, in numbers.
use mathlib.Core.Path.{◌≡◌, refl}
use mathlib.Core.Bool.{Bool, true, false, not, ◌||◌, false≢true}
use Prim.Native.Nat.{ℕ, zero, suc, ◌≤◌, ◌<◌}
use native.Mathlib.Omega.{arith}
use mathlib.Core.List.{List}
use native.Mathlib.Decide.{dec_lt}
use lib.ListN.{length, get_or, get_or-eq_default}
use lib.Dec.{ltb}
use borrow.Author.Tests.{leb-true, ltb-true, eqb-true}
use Rattle.lists.specs.Tests.{◌is◌, ◌implies◌}
use Rattle.lists.proofs.TestLaws.{and_left, and_right, and3}
use Rattle.rules.specs.Rows.{Row, kind_toll, kind_fee, kind_payment, last_stage, dispute_held, blank, row_no, toll, held_toll, unsettled}
use Rattle.rules.specs.Book.{Account, unused, state_unused, Book, account_no}
use Rattle.rules.specs.Soundness.{mark_fits, hold_fits, account_used, names, reference_fits}
use Rattle.rules.specs.SoundFacts.{Near}
use Rattle.rules.proofs.StorableLaws.{settled-le, schedule-storable}
use Rattle.preservation.proofs.DisputeKept.{held-is}

-- ---- a toll

pub record Holding (today : ℕ) (r : Row) : Type 0 where
  pub past : r.hold ≤ today
  pub open-still : unsettled r ≡ true

holding : (today L : ℕ) (r : Row) → hold_fits today L r ≡ true → held_toll r ≡ true → Holding today r
holding today L r f h =
    let w = held-is today L r (eqb-true _ _ (and_left (toll r) (r.dispute is dispute_held) h)) (eqb-true _ _ (and_right (toll r) (r.dispute is dispute_held) h)) f in
    record { past = w.begun; open-still = w.open-still }

stage-by : (r : Row) → mark_fits r ≡ true → toll r ≡ true → r.mark ≤ last_stage
unfolding mark_fits
stage-by r f k = leb-true r.mark last_stage (rw k at f)

-- ---- the row that a fee names, and a row's account

pub record Refers (rows : List Row) (n : ℕ) (r : Row) : Type 0 where
  pub earlier : r.reference < n
  pub same : (row_no rows r.reference).account ≡ r.account

named-row : (rows : List Row) (n : ℕ) (r : Row) (kind : ℕ) → names rows n r kind ≡ true → Refers rows n r
unfolding names
named-row rows n r kind f =
    let p = and3 (ltb r.reference n) ((row_no rows r.reference).kind is kind) ((row_no rows r.reference).account is r.account) f in
    record { earlier = ltb-true _ _ p.0; same = eqb-true _ _ p.2 }

refers : (rows : List Row) (n : ℕ) (r : Row) → reference_fits rows n r ≡ true → r.kind is kind_fee ≡ true → Refers rows n r
unfolding reference_fits
refers rows n r f k =
    let a : Bool = names rows n r kind_toll || names rows n r kind_payment in
    either (names rows n r kind_toll) refl (and3 (r.kind is kind_fee implies a) _ _ f).0
  where
    either : (v : Bool) → names rows n r kind_toll ≡ v → (r.kind is kind_fee implies v || names rows n r kind_payment) ≡ true → Refers rows n r
    either true e g = named-row rows n r kind_toll e
    either false e g = named-row rows n r kind_payment (rw k at g)

pub record Within (n : ℕ) (a : ℕ) : Type 0 where
  pub low : 1 ≤ a
  pub high : a ≤ n

account-in : (xs : List Account) (a : ℕ) → not ((account_no xs a).state is state_unused) ≡ true → Within (length xs) a
account-in xs zero e = absurd (false≢true e)
account-in xs (suc a) e = elim (dec_lt a (length xs)) [
  | yes h ↦ record { low = omega arith; high = omega arith }
  | no h ↦ absurd (false≢true (rw (get_or-eq_default xs unused {n = a} (omega arith)) at e))
]

-- ---- a row of a sound book

pub record SoundRow (today accounts : ℕ) (rows : List Row) (n : ℕ) (r : Row) : Type 0 where
  pub fits : r.settled ≤ r.amount
  pub stage : toll r ≡ true → r.mark ≤ last_stage
  pub holding : held_toll r ≡ true → Holding today r
  pub refers : r.kind is kind_fee ≡ true → Refers rows n r
  pub account : Within accounts r.account

module _ (b : Book) (near : Near b.day b) where
  pub sound-row : (k : ℕ) → k < length b.rows → SoundRow b.day (length b.accounts) b.rows (suc k) (get_or b.rows k blank)
  unfolding account_used
  sound-row k h =
      let r : Row = get_or b.rows k blank in
      let v = near.shape k h in
      let w = near.live k h in
      record {
        fits = settled-le r w.settled;
        stage = stage-by r v.mark;
        holding = holding b.day b.schedule.stage r w.hold;
        refers = refers b.rows (suc k) r v.reference;
        account = account-in b.accounts r.account v.account;
      }

  pub stage-length : 1 ≤ b.schedule.stage
  stage-length = (schedule-storable b.schedule near.schedule).least
