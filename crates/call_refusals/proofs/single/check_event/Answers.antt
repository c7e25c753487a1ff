-- `check_event` meets its contract: each way through the tests is a case of the table.
use mathlib.Core.Path.{refl, sym, ◌∙◌}
use mathlib.Core.Bool.{true, false}
use borrow.Author.Tests.{not-true, not-false}
use Rattle.lists.specs.Tests.{first}
use Rattle.call_refusals.proofs.RefusalLaws.{event-refusals-by}
use Rattle.call_refusals.proofs.single.check_event.Goals as goal

pub returns-then-not-sound : goal.returns-then-not-sound
unfolding first
returns-then-not-sound c = event-refusals-by _ _ _ false _ (sym c.sound.ensures ∙ not-true _ c.if-not-sound.true-raw) refl

pub returns-then-event-answer : goal.returns-then-event-answer
unfolding first
returns-then-event-answer c = event-refusals-by _ _ _ true true (sym c.sound.ensures ∙ not-false _ c.if-not-sound.false-raw) c.if-event-answer.true

pub returns : goal.returns
unfolding first
returns c = event-refusals-by _ _ _ true false (sym c.sound.ensures ∙ not-false _ c.if-not-sound.false-raw) c.if-event-answer.false
