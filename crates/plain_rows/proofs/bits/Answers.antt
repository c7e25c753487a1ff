-- `bits` meets its contract: the word is cast_unsigned's argument.
use Rattle.plain_rows.proofs.AlikeLaws.{alike-bits}
use mir.Facts.{to_z-of_z}
use Rattle.plain_rows.proofs.bits.Goals as goal

pub returns : goal.returns
returns c = rw (c.cast_unsigned.ensures, to_z-of_z c.ranges.x) (alike-bits _ c.ranges.x)
