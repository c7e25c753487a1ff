-- `natural` meets its contract: each way through the test is the definition's; a signed local is its bits, read back.
use Rattle.records.proofs.WordLaws.{is_negative, not_negative}
use mir.Facts.{to_z-of_z}
use Rattle.lists.proofs.SignLaws.{cast_fits}
use Rattle.records.proofs.words.natural.Goals as goal

pub overflow_cast-result : goal.overflow_cast-result
overflow_cast-result c = rw (to_z-of_z c.ranges.x) (cast_fits _ c.ranges.x (rw (to_z-of_z c.ranges.x) at c.if-x-lt0.false))

pub returns-then-x-lt0 : goal.returns-then-x-lt0
returns-then-x-lt0 c = is_negative c.args.x (rw (to_z-of_z c.ranges.x) at c.if-x-lt0.true)

pub returns-else-x-lt0 : goal.returns-else-x-lt0
returns-else-x-lt0 c = rw (to_z-of_z c.ranges.x) (not_negative c.args.x (rw (to_z-of_z c.ranges.x) at c.if-x-lt0.false))
