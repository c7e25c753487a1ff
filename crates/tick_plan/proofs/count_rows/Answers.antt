-- `count_rows` meets its contract: it counts to what was counted of no rows.
use native.Mathlib.Omega.{arith}
use Rattle.rules.proofs.TableLaws.{header-length}
use Rattle.posting.proofs.BookLaws.{day-small}
use Rattle.tick_plan.proofs.count_rows.Goals as goal

pub day-requires : goal.day-requires
day-requires c = omega (arith, header-length _ c.requires)

pub overflow_add-day : goal.overflow_add-day
overflow_add-day c = omega (arith, c.day.ensures, day-small _ c.requires)

pub count_rows_to-requires : goal.count_rows_to-requires
count_rows_to-requires c = (c.requires, λ h j. rw c.day.ensures at (c.none-counts.ensures h j))
