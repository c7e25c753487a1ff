-- The classes by their numbers (document 01, event 2).
use Rattle.std.specs.Prelude.{ℕ, Option, Some, None}
use Rattle.event_rates.specs.declared.Class.{Class}
use Rattle.event_rates.specs.declared.Class.TheVariants.{One, Two, Three}

-- the number of a class
abbrev pub class_number : Class → ℕ
class_number One = 1
class_number Two = 2
class_number Three = 3

-- the same, 0 where no class applies
abbrev pub class_by : Option Class → ℕ
class_by (Some k) = class_number k
class_by None = 0
