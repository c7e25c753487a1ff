-- `balance` meets its contract: refused, its value is 0; else it is the difference of the sums.
use Rattle.call_questions.proofs.QuestionLaws.{numbered, asked-sound, question-refused, question-answered, sums-small, balance-read}
use Rattle.rules.specs.Book as book
use Rattle.call_rules.specs.Calls.{balance_call}
use Rattle.posting.proofs.BookLaws.{rows-lie, journal-summable}
use mir.Facts.{to_z-of_z}
use Rattle.std.proofs.Common.{rules, w64}
use Rattle.std.specs.Prelude.{Err}
use native.Mathlib.Omega.{arith}
use mathlib.Core.Path.{◌≡◌, ◌∙◌}
use Rattle.rules.specs.Tables.{tables_with}
use borrow.Author.Rules.{sfits_of}
use Rattle.call_questions.proofs.balance.Goals as goal
use Rattle.lent.specs.Lent.{lent}

pub returns-in_err-check_question : goal.returns-in_err-check_question
unfolding balance_call
returns-in_err-check_question c =
    let q : c.from_residual.result ≡ Err c.in_err-check_question.field-0.0 = search rules in
    rw q (question-refused book.balance (tables_with c.args.holidays.now (lent c.args.t)) _ _ (numbered c.natural-n.ensures c.ranges.account) _ c.in_err-check_question.ensures)

pub rows-requires : goal.rows-requires
rows-requires c = rows-lie _ (asked-sound _ _ c.in_ok-check_question.ensures)

pub invariant_of-summable : goal.invariant_of-summable
invariant_of-summable c =
    rw (c.rows.ensures.journal, c.rows.ensures.used) (record { amounts = journal-summable _ (asked-sound _ _ c.in_ok-check_question.ensures) })

pub balance-requires : goal.balance-requires
balance-requires c =
    let h = sums-small (tables_with c.args.holidays.now (lent c.args.t)) (asked-sound _ _ c.in_ok-check_question.ensures) _ c.rows.ensures.used _ _ (rw c.rows.ensures.journal at c.sums_of-s.ensures) in
    (omega arith, omega arith)

pub returns : goal.returns
unfolding balance_call
returns c =
    question-answered book.balance (tables_with c.args.holidays.now (lent c.args.t)) _ _ (numbered c.natural-n.ensures c.ranges.account) c.in_ok-check_question.ensures _
    (to_z-of_z {w = w64} (sfits_of c.balance.type_inv) ∙ c.balance.ensures ∙ balance-read (tables_with c.args.holidays.now (lent c.args.t)) (asked-sound _ _ c.in_ok-check_question.ensures) _ c.rows.ensures.used _ _ (rw c.rows.ensures.journal at c.sums_of-s.ensures))
