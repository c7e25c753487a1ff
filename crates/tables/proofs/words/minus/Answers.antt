-- `minus` meets its contract: the difference of two numbers that a word holds fits a word.
use Rattle.tables.proofs.WordLaws.{difference-fits}
use Rattle.rules.specs.Book.{minus}
use mir.Facts.{to_z-of_z}
use mir.ValLaws.{to_z_pos}
use mir.Syntax.{w64}
use mathlib.Core.Path.{◌∙◌}
use Rattle.tables.proofs.words.minus.Goals as goal

pub overflow_sub-result : goal.overflow_sub-result
overflow_sub-result c = rw (to_z_pos w64 c.args.a c.requires.0, to_z_pos w64 c.args.b c.requires.1) (difference-fits c.args.a c.args.b c.requires.0 c.requires.1)

pub returns : goal.returns
unfolding minus
returns c = to_z-of_z (overflow_sub-result c) ∙ rw (to_z_pos w64 c.args.a c.requires.0, to_z_pos w64 c.args.b c.requires.1)
