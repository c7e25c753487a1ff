-- `get` meets its contract: the word that was read is natural's argument.
use Rattle.records.specs.Encoding.{nat_of, word}
use borrow.Author.Rules.{sfits_of}
use mir.Facts.{to_z-of_z}
use Rattle.std.proofs.Common.{w64}
use mathlib.Core.Path.{ap, ◌∙◌}
use Rattle.tables.proofs.words.get.Goals as goal

pub returns : goal.returns
unfolding word
returns c = c.natural.ensures ∙ ap nat_of (to_z-of_z {w = w64} (sfits_of c.natural-arg-1.given))
