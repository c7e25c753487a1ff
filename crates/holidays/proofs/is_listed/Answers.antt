-- `is_listed` meets its contract: at each turn the day is at none of the places that are left out.
use Rattle.holidays.proofs.HolidayLaws.{word-listed, length-listed, narrowed-none, narrowed-up, narrowed-down, listed-found, listed-none}
use Rattle.records.specs.Encoding.{nat_of}
use mathlib.Core.List.{map}
use mathlib.Core.Path.{sym, ◌∙◌}
use Prim.Native.Nat.{ℕ, ◌+◌, ◌-◌, ◌/◌}
use native.Mathlib.Omega.{arith}
use Rattle.holidays.proofs.is_listed.Goals as goal

abbrev half : ℕ → ℕ → ℕ
half a b = a + (b - a) / 2

pub loop-from-init : goal.loop-from-init
loop-from-init c =
    rw (length-listed c.args.holidays.now) at (narrowed-none (map nat_of c.args.holidays.now) c.args.day)

pub returns-then-listed-day : goal.returns-then-listed-day
returns-then-listed-day c =
    let t = c.args.holidays.now in
    let m = half c.loop-from.from c.loop-from.to in
    let l = c.loop-from.invariant in
    sym
    (listed-found (map nat_of t) c.args.day m (omega (arith, l.within))
    (sym (c.get-listed.ensures ∙ word-listed t m) ∙ c.if-listed-day.true))

pub loop-from-preserved-then-listed-day-2 : goal.loop-from-preserved-then-listed-day-2
loop-from-preserved-then-listed-day-2 c =
    let t = c.args.holidays.now in
    let m = half c.loop-from.from c.loop-from.to in
    let d = c.get-listed.ensures ∙ word-listed t m in
    narrowed-up (map nat_of t) c.requires _ _ _ m c.loop-from.invariant (omega arith) (omega arith)
    (omega (arith, d, c.if-listed-day-2.true))

pub loop-from-preserved : goal.loop-from-preserved
loop-from-preserved c =
    let t = c.args.holidays.now in
    let m = half c.loop-from.from c.loop-from.to in
    let d = c.get-listed.ensures ∙ word-listed t m in
    narrowed-down (map nat_of t) c.requires _ _ _ m c.loop-from.invariant (omega arith) (omega arith)
    (omega (arith, d, c.if-listed-day.false, c.if-listed-day-2.false))

pub returns : goal.returns
returns c = sym (listed-none _ _ _ _ (omega arith) c.loop-from.invariant)
