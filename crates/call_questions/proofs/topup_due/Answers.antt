-- `topup_due` meets its contract: refused, its value is 0; else it is 1 or 0 as the test says.
use Rattle.call_questions.proofs.QuestionLaws.{numbered, asked-sound, question-refused, question-answered}
use Rattle.rules.specs.Book as book
use Rattle.call_rules.specs.Calls.{topup_due_call}
use Rattle.rules.specs.Tables.{book_of}
use Rattle.rules.proofs.HolidayTables.{sound-without}
use lib.IntN.{pos}
use mathlib.Core.Bool.{cond}
use Rattle.std.proofs.Common.{rules}
use Rattle.std.specs.Prelude.{Err}
use mathlib.Core.Path.{◌≡◌, ap}
use Rattle.call_questions.proofs.topup_due.Goals as goal
use Rattle.lent.specs.Lent.{lent}

pub returns-in_err-check_question : goal.returns-in_err-check_question
unfolding topup_due_call
returns-in_err-check_question c =
    let q : c.from_residual.result ≡ Err c.in_err-check_question.field-0.0 = search rules in
    rw q (question-refused (λ b n. pos (cond (book.topup_due b n) 1 0)) _ _ _ (numbered c.natural-n.ensures c.ranges.account) _ c.in_err-check_question.ensures)

pub topup_due-requires : goal.topup_due-requires
topup_due-requires c = sound-without c.args.holidays.now (lent c.args.t) (asked-sound _ _ c.in_ok-check_question.ensures)

-- the question never reads the holidays
pub returns : goal.returns
unfolding topup_due_call book.topup_due book.low_balance book_of
returns c =
    question-answered (λ b n. pos (cond (book.topup_due b n) 1 0)) _ _ _ (numbered c.natural-n.ensures c.ranges.account) c.in_ok-check_question.ensures _
    (ap (λ due. pos (cond due 1 0)) c.topup_due.ensures)
