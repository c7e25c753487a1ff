-- `check_batch` meets its contract: each way through the tests is a case of the table.
use mathlib.Core.Path.{refl, sym, ◌∙◌}
use mathlib.Core.Bool.{true, false}
use borrow.Author.Tests.{not-true, not-false, lt-ltb, le-ltb}
use Rattle.lists.specs.Tests.{first}
use Rattle.call_refusals.proofs.RefusalLaws.{batch-refusals-by}
use Rattle.call_refusals.proofs.batch.check_batch.Goals as goal

pub returns-then-not-sound : goal.returns-then-not-sound
unfolding first
returns-then-not-sound c es l = batch-refusals-by _ es _ false _ _ (sym c.sound.ensures ∙ not-true _ c.if-not-sound.true-raw) refl refl

pub returns-then-count-gt-MOST_EVENTS : goal.returns-then-count-gt-MOST_EVENTS
unfolding first
returns-then-count-gt-MOST_EVENTS c es l = batch-refusals-by _ es _ true true _ (sym c.sound.ensures ∙ not-false _ c.if-not-sound.false-raw) (rw l (lt-ltb _ _ c.if-count-gt-MOST_EVENTS.true)) refl

pub returns-then-answers-count : goal.returns-then-answers-count
unfolding first
returns-then-answers-count c es l = batch-refusals-by _ es _ true false true (sym c.sound.ensures ∙ not-false _ c.if-not-sound.false-raw) (rw l (le-ltb _ _ c.if-count-gt-MOST_EVENTS.false)) (rw l (lt-ltb _ _ c.if-answers-count.true))

pub returns : goal.returns
unfolding first
returns c es l = batch-refusals-by _ es _ true false false (sym c.sound.ensures ∙ not-false _ c.if-not-sound.false-raw) (rw l (le-ltb _ _ c.if-count-gt-MOST_EVENTS.false)) (rw l (le-ltb _ _ c.if-answers-count.false))
