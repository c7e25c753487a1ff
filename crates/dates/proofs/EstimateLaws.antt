-- Laws of the estimate of a day's month: where it turns in time at every month, the day lies in the month that it names or in the one before.
use mathlib.Core.Path.{◌≡◌, refl}
use mathlib.Core.Bool.{Bool, true, false}
use Prim.Native.Nat.{ℕ, zero, suc, ◌+◌, ◌-◌, ◌*◌, ◌/◌, ◌≤◌, ◌<◌}
use native.Mathlib.Nat.{div-zero, div-mul-le_self, div-lt_iff_lt-mul, mul-le-mul_right}
use native.Mathlib.Omega.{arith}
use lib.Dec.{T, leb, leb→le}
use mir.Facts.{and_yes}
use borrow.Author.Tests.{leb-true, leb-false}
use Rattle.dates.specs.Gregorian.{month_start, InMonth, Near}
use Rattle.dates.proofs.MonthPass.{every_from, estimate, turns}
use Rattle.dates.proofs.MonthPassLaws.{every-at}
use Rattle.dates.proofs.GregorianLaws.{month_start-rises, month-before, month-exists, month-in-century, century}

div-rises : (x y k : ℕ) → x ≤ y → x / k ≤ y / k
div-rises x y zero h = rw (div-zero x, div-zero y) (omega arith)
div-rises x y (suc k) h = go (leb (x / suc k) (y / suc k)) refl
  where
    go : (t : Bool) → leb (x / suc k) (y / suc k) ≡ t → x / suc k ≤ y / suc k
    go true e = leb-true (x / suc k) (y / suc k) e
    go false e =
        let minus : y / suc k < x / suc k = leb-false (x / suc k) (y / suc k) e in
        let early = (div-lt_iff_lt-mul {k = suc k} {x = y} {y = x / suc k} (omega arith)).0 minus in
        omega (arith, div-mul-le_self x (suc k))

estimate-rises : (offset months days a b : ℕ) → a ≤ b → estimate offset months days a ≤ estimate offset months days b
estimate-rises offset months days a b h =
    let more : a + offset ≤ b + offset = omega arith in
    div-rises ((a + offset) * months) ((b + offset) * months) days (mul-le-mul_right months more)

module _ (f : ℕ → ℕ) (rises : (a b : ℕ) → a ≤ b → f a ≤ f b) (tested : T (every_from (turns f) 1201 0 1)) where
  turns_at : (m : ℕ) → m < 1201 → (m ≤ f (month_start m)) × (f (month_start m - 1) ≤ m)
  unfolding turns
  turns_at m h =
      let passed = every-at (turns f) 1201 tested m h in
      let t = and_yes (leb m (f (month_start m))) (leb (f (month_start m - 1)) m) passed in
      (leb→le m (f (month_start m)) t.0, leb→le (f (month_start m - 1)) m t.1)

  tested-near : (day : ℕ) → 1 ≤ day → day ≤ 36525 → Near (f day) day
  tested-near day from until =
      let found = month-exists 1200 day from (omega (arith, century)) in
      let m = found.0 in
      let lies = found.1 in
      let early = month-in-century m day lies until in
      let first = rises (month_start m) day lies.begun in
      let last = rises day (month_start (suc m) - 1) (omega arith) in
      let low : m ≤ f day = omega (arith, turns_at m (omega arith)) in
      let high : f day ≤ suc m = omega (arith, turns_at (suc m) (omega arith)) in
      record {
        begun = omega (arith, month_start-rises (f day - 1) m (omega arith));
        lasts = omega (arith, month_start-rises (suc m) (suc (f day)) (omega arith));
      }

-- an estimate that turns in time at every month of the century, and at the one after, is near each day
pub estimate-near
    : (offset months days : ℕ)
    → T (every_from (turns (estimate offset months days)) 1201 0 1)
    → (day : ℕ)
    → 1 ≤ day
    → day ≤ 36525
    → Near (estimate offset months days day) day
estimate-near offset months days = tested-near (estimate offset months days) (estimate-rises offset months days)

-- the table has the start of a month near a day of the century
pub near-in-century : (next day : ℕ) → Near next day → day ≤ 36525 → next < 1201
near-in-century next day near until =
    let early = month-before (next - 1) 1200 day near.begun (omega (arith, century)) in
    omega arith

-- a day before the start of the month near it lies in the month before, which there is
pub near_before : (next day : ℕ) → Near next day → day < month_start next → (1 ≤ next) × InMonth (next - 1) day
near_before next day near early =
    let later = month-before (next - 1) next day near.begun early in
    let e : suc (next - 1) ≡ next = omega arith in
    (omega arith, record { begun = near.begun; lasts = rw e early })
