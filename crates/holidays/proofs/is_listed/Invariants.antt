use Rattle.holidays.proofs.HolidayLaws.{Narrowed}
use Rattle.records.specs.Encoding.{nat_of}
use mathlib.Core.List.{map}
use Prim.Native.Nat.{◌-◌}
use Rattle.holidays.proofs.is_listed.Given as goal

abbrev pub invariant-loop-from : goal.invariant-loop-from
invariant-loop-from l = Narrowed (map nat_of l.holidays) l.day l.from l.to

-- the places that are left
abbrev pub decreases-loop-from : goal.decreases-loop-from
decreases-loop-from l = l.to - l.from
