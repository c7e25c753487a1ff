-- `raise_marked` meets its contract: where the block has no mark, the row stays.
use mathlib.Core.Path.{refl}
use Rattle.tick_raise.proofs.RaisedLaws.{raised-none}
use Rattle.tick_raise.proofs.raise_marked.Goals as goal

pub returns-then-mark-eq0 : goal.returns-then-mark-eq0
returns-then-mark-eq0 c = raised-none _ _ _ _ c.requires.0 _ refl (c.requires.1 c.if-mark-eq0.true)
