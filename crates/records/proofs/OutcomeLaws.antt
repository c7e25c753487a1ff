-- The number of a refusal is none of 0, which an accepted event has.
use mathlib.Core.Path.{◌≡◌, refl}
use mathlib.Core.Bool.{false}
use Rattle.lists.specs.Tests.{◌is◌}
use Rattle.records.specs.Outcomes.{number_of}
use Rattle.records.specs.declared.refusals.Refusal.{Refusal}
use Rattle.records.specs.declared.refusals.Refusal.TheVariants as refusal
use Rattle.records.specs.declared.refusals.Refusal.TheVariants.{Unsound, Malformed, Unknown, Taken, Closed, Unclassed, Misdated, Duplicate, Barred, NoRow, Untimely, Reserve, LastDay, Full, Ceiling, Holidays, Successor}

pub number_of-not_0 : (r : Refusal) → number_of r is 0 ≡ false
number_of-not_0 Unsound = refl
number_of-not_0 Malformed = refl
number_of-not_0 Unknown = refl
number_of-not_0 Taken = refl
number_of-not_0 Closed = refl
number_of-not_0 Unclassed = refl
number_of-not_0 Misdated = refl
number_of-not_0 Duplicate = refl
number_of-not_0 Barred = refl
number_of-not_0 NoRow = refl
number_of-not_0 Untimely = refl
number_of-not_0 Reserve = refl
number_of-not_0 LastDay = refl
number_of-not_0 Full = refl
number_of-not_0 Ceiling = refl
number_of-not_0 refusal.List = refl
number_of-not_0 Holidays = refl
number_of-not_0 Successor = refl
