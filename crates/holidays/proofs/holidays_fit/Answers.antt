-- `holidays_fit` meets its contract: every holiday passed fits, and `least` is the day after the last of them.
use Rattle.holidays.proofs.HolidayLaws.{word-listed, length-listed, too-many, all-fit, unfit-at, tested, fit-more}
use Rattle.records.specs.Encoding.{nat_of}
use mathlib.Core.Bool.{not}
use mathlib.Core.List.{map}
use mathlib.Core.Path.{◌≡◌, sym, ap, ◌∙◌}
use lib.ListN.{length}
use Prim.Native.Nat.{suc, ◌+◌}
use Rattle.rules.specs.BusinessDays.{holiday_no}
use native.Mathlib.Omega.{arith}
use Rattle.holidays.proofs.holidays_fit.Goals as goal

pub returns-then-holidays-gt-MOST_HOLIDAYS : goal.returns-then-holidays-gt-MOST_HOLIDAYS
returns-then-holidays-gt-MOST_HOLIDAYS c = sym (too-many _ (omega (arith, length-listed c.args.holidays.now)))

pub returns-then-day-least : goal.returns-then-day-least
returns-then-day-least c =
    let t = c.args.holidays.now in
    let d = c.get-day.ensures ∙ word-listed t c.loop-i.i in
    sym
    (unfit-at (map nat_of t) c.loop-i.i (omega (arith, length-listed t))
    (tested (map nat_of t) c.loop-i.i _ _ d c.loop-i.invariant.0 ∙ ap not c.if-day-least.true))

pub loop-i-preserved : goal.loop-i-preserved
loop-i-preserved c =
    let t = c.args.holidays.now in
    let d = c.get-day.ensures ∙ word-listed t c.loop-i.i in
    let n : suc c.loop-i.i ≡ c.loop-i.i + 1 = omega arith in
    let next : c.get-day.result + 1 ≡ holiday_no (map nat_of t) (c.loop-i.i + 1) + 1 = rw (← n) (ap (λ x. x + 1) d) in
    (next, fit-more (map nat_of t) c.loop-i.i _ _ d c.loop-i.invariant.0 c.if-day-least.false c.loop-i.invariant.1)

pub returns : goal.returns
returns c =
    let t = c.args.holidays.now in
    let n : c.loop-i.i ≡ length (map nat_of t) = omega (arith, length-listed t) in
    sym (all-fit (map nat_of t) (omega (arith, length-listed t)) (rw n at c.loop-i.invariant.1))
