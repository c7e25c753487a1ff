-- `check_question` meets its contract: each way through the tests is a case of the table.
use Rattle.call_questions.proofs.QuestionLaws.{refusal-unsound, refusal-by}
use borrow.Author.Tests.{eq-eqb, ne_eqb, not-true, not-false}
use mathlib.Core.Bool.{true, false}
use mathlib.Core.Path.{sym, ◌∙◌}
use Rattle.call_questions.proofs.check_question.Goals as goal

pub returns-then-not-sound : goal.returns-then-not-sound
returns-then-not-sound c = refusal-unsound _ _ (sym c.sound.ensures ∙ not-true _ c.if-not-sound.true-raw)

pub returns-then-x-eq-STATE_UNUSED : goal.returns-then-x-eq-STATE_UNUSED
returns-then-x-eq-STATE_UNUSED c =
    let s = sym c.sound.ensures ∙ not-false _ c.if-not-sound.false-raw in
    refusal-by _ _ s _ c.account-x.ensures true (eq-eqb _ _ c.if-x-eq-STATE_UNUSED.true)

pub returns : goal.returns
returns c =
    let s = sym c.sound.ensures ∙ not-false _ c.if-not-sound.false-raw in
    refusal-by _ _ s _ c.account-x.ensures false (ne_eqb _ _ c.if-x-eq-STATE_UNUSED.false)
