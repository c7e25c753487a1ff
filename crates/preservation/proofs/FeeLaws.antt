-- What a nearly sound book says of its fees and of its schedule: a fee's row is an earlier one of its own account, and amounts are
-- within their ranges.
use mathlib.Core.Path.{◌≡◌, refl}
use mathlib.Core.Bool.{Bool, true, false, cond, ◌&&◌, ◌||◌}
use Prim.Native.Nat.{ℕ, zero, suc, ◌+◌, ◌*◌, ◌-◌, ◌≤◌, ◌<◌}
use native.Mathlib.Omega.{arith}
use mathlib.Core.List.{List, [], ◌∷◌}
use lib.ListN.{length, get_or}
use lib.Dec.{eqb, leb, ltb}
use borrow.Author.Tests.{ltb-true, eqb-true}
use Rattle.records.specs.Codes.{kind_fee}
use Rattle.lists.specs.Tests.{◌from◌to◌, ◌implies◌, first}
use Rattle.lists.specs.Lists.{count}
use Rattle.lists.proofs.TestLaws.{and_left, and_right}
use Rattle.lists.proofs.SumLaws.{sum_by-zero-at}
use Rattle.records.specs.Limits.{highest_fee, highest_rate}
use Rattle.rules.specs.Schedule.{Rates, Schedule, classes, class, rate, stage_fee, rates_fit}
use Rattle.rules.specs.Rows.{Row, blank, row_no, fee_naming}
use Rattle.rules.specs.Book.{Book}
use Rattle.rules.specs.Soundness.{names, reference_fits}
use Rattle.rules.specs.SoundFacts.{Near}
use Rattle.rules.proofs.StorableLaws.{StorableSchedule}

-- ---- a fee's row

pub record Named (rows : List Row) (n : ℕ) (x : Row) : Type 0 where
  pub before : x.reference < n
  pub account : (row_no rows x.reference).account ≡ x.account

pub names-facts : (rows : List Row) (n : ℕ) (x : Row) (k : ℕ) → names rows n x k ≡ true → Named rows n x
unfolding names
names-facts rows n x k e =
    let p : Bool = ltb x.reference n in
    let q : Bool = eqb (row_no rows x.reference).kind k in
    let a : Bool = eqb (row_no rows x.reference).account x.account in
    record {
      before = ltb-true x.reference n (and_left p q (and_left (p && q) a e));
      account = eqb-true (row_no rows x.reference).account x.account (and_right (p && q) a e);
    }

pub fee-names : (rows : List Row) (n : ℕ) (x : Row) → x.kind ≡ kind_fee → reference_fits rows n x ≡ true → Named rows n x
unfolding reference_fits names
fee-names rows n x k e =
    let p : Bool = eqb x.kind 2 implies names rows n x 1 || names rows n x 4 in
    let q : Bool = eqb x.kind 3 implies names rows n x 4 in
    let r : Bool = eqb x.kind 5 implies names rows n x 1 in
    let f : names rows n x 1 || names rows n x 4 ≡ true = rw k at (and_left p q (and_left (p && q) r e)) in
    go (names rows n x 1) refl f
  where
    go : (t : Bool) → names rows n x 1 ≡ t → t || names rows n x 4 ≡ true → Named rows n x
    go true a f = names-facts rows n x 1 a
    go false a f = names-facts rows n x 4 f

module _ (past : ℕ) (b : Book) (s : Near past b) where
  pub fee-at : (k : ℕ) → k < length b.rows → (get_or b.rows k blank).kind ≡ kind_fee → Named b.rows (suc k) (get_or b.rows k blank)
  fee-at k l e = fee-names b.rows (suc k) (get_or b.rows k blank) e (s.shape k l).reference

  -- no fee names a row that is yet to come
  pub fees-none : (n : ℕ) → length b.rows < n → count (fee_naming n) b.rows ≡ 0
  unfolding count fee_naming
  fees-none n h = sum_by-zero-at (λ r. cond (fee_naming n r) 1 0) blank b.rows (λ i l. go i l (eqb (get_or b.rows i blank).kind 2) refl (eqb (get_or b.rows i blank).reference n) refl)
    where
      go : (i : ℕ) → i < length b.rows → (t : Bool) → eqb (get_or b.rows i blank).kind 2 ≡ t → (u : Bool) → eqb (get_or b.rows i blank).reference n ≡ u
          → ◌≡◌ {A = ℕ} (cond (t && u) 1 0) 0
      go i l true e true f =
          absurd (omega (arith, (fee-at i l (eqb-true (get_or b.rows i blank).kind 2 e)).before, eqb-true (get_or b.rows i blank).reference n f))
      go i l true e false f = refl
      go i l false e u f = refl

-- ---- the schedule

pub stage_fee-le : (s : Schedule) → StorableSchedule s → (j : ℕ) → stage_fee s j ≤ highest_fee
unfolding stage_fee
stage_fee-le s p zero = omega arith
stage_fee-le s p (suc zero) = omega arith
stage_fee-le s p (suc (suc zero)) = p.fee2
stage_fee-le s p (suc (suc (suc zero))) = p.fee3
stage_fee-le s p (suc (suc (suc (suc zero)))) = p.fee4
stage_fee-le s p (suc (suc (suc (suc (suc j))))) = omega arith

pub class-le : (axles height : ℕ) → class axles height ≤ 3
unfolding class classes first
class-le axles height = go (leb axles 2 && leb height 90) (eqb axles 2 && ltb 90 height || eqb axles 3 || eqb axles 4) (leb 5 axles)
  where
    go : (t u v : Bool) → cond t 1 (cond u 2 (cond v 3 0)) ≤ 3
    go true u v = omega arith
    go false true v = omega arith
    go false false true = omega arith
    go false false false = omega arith

-- the rate of any vehicle in either mode is one of the six
pub rate-fits : (r : Rates) → rates_fit r ≡ true → (axles height mode : ℕ) → mode ≤ 2 → rate r (class axles height) mode from 1 to highest_rate ≡ true
unfolding rate rates_fit
rate-fits r f axles height mode h = at (2 * class axles height + mode - 3) (omega (arith, class-le axles height))
  where
    p1 : Bool
    p1 = r.tag1 from 1 to highest_rate

    p2 : Bool
    p2 = r.plate1 from 1 to highest_rate

    p3 : Bool
    p3 = r.tag2 from 1 to highest_rate

    p4 : Bool
    p4 = r.plate2 from 1 to highest_rate

    p5 : Bool
    p5 = r.tag3 from 1 to highest_rate

    p6 : Bool
    p6 = r.plate3 from 1 to highest_rate

    e5 : p1 && p2 && p3 && p4 && p5 ≡ true
    e5 = and_left (p1 && p2 && p3 && p4 && p5) p6 f

    e4 : p1 && p2 && p3 && p4 ≡ true
    e4 = and_left (p1 && p2 && p3 && p4) p5 e5

    e3 : p1 && p2 && p3 ≡ true
    e3 = and_left (p1 && p2 && p3) p4 e4

    e2 : p1 && p2 ≡ true
    e2 = and_left (p1 && p2) p3 e3

    at : (k : ℕ) → k < 6 → get_or (r.tag1 ∷ r.plate1 ∷ r.tag2 ∷ r.plate2 ∷ r.tag3 ∷ r.plate3 ∷ []) k 0 from 1 to highest_rate ≡ true
    at zero l = and_left p1 p2 e2
    at (suc zero) l = and_right p1 p2 e2
    at (suc (suc zero)) l = and_right (p1 && p2) p3 e3
    at (suc (suc (suc zero))) l = and_right (p1 && p2 && p3) p4 e4
    at (suc (suc (suc (suc zero)))) l = and_right (p1 && p2 && p3 && p4) p5 e5
    at (suc (suc (suc (suc (suc zero))))) l = and_right (p1 && p2 && p3 && p4 && p5) p6 f
    at (suc (suc (suc (suc (suc (suc k)))))) l = absurd (omega arith)
