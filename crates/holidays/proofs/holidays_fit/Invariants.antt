use Rattle.holidays.proofs.HolidayLaws.{FirstFit}
use Rattle.records.specs.Encoding.{nat_of}
use Rattle.rules.specs.BusinessDays.{holiday_no}
use mathlib.Core.Path.{◌≡◌}
use mathlib.Core.List.{map}
use Prim.Native.Nat.{◌+◌}
use Rattle.holidays.proofs.holidays_fit.Given as goal

abbrev pub invariant-loop-i : goal.invariant-loop-i
invariant-loop-i l = (l.least ≡ holiday_no (map nat_of l.holidays) l.i + 1) × FirstFit (map nat_of l.holidays) l.i
