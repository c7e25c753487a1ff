-- `put` meets its contract: a number below 2 ^ 63 is itself as a signed word.
use mir.ValLaws.{to_z_pos}
use mir.Syntax.{w64}
use Rattle.tables.proofs.words.put.Goals as goal

pub returns : goal.returns
returns c = rw (to_z_pos w64 c.args.v c.requires.1)
