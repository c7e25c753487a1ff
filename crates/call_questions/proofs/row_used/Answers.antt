-- `row_used` meets its contract: an unsound book decides; else it is the test on the number.
use Rattle.rules.proofs.TableLaws.{header-length}
use borrow.Author.Tests.{not-true, not-false}
use native.Mathlib.Omega.{arith}
use mathlib.Core.Path.{sym, ◌∙◌}
use Rattle.call_questions.proofs.row_used.Goals as goal

pub returns-then-not-sound : goal.returns-then-not-sound
returns-then-not-sound c = rw (sym c.sound.ensures ∙ not-true _ c.if-not-sound.true-raw)

pub used-requires : goal.used-requires
used-requires c = omega (arith, header-length _ (sym c.sound.ensures ∙ not-false _ c.if-not-sound.false-raw))

pub returns : goal.returns
returns c = rw (sym c.sound.ensures ∙ not-false _ c.if-not-sound.false-raw, c.used.ensures)
