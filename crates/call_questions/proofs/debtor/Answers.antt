-- `debtor` meets its contract: refused, its values are 0; else they are told by the used rows.
use Rattle.call_questions.proofs.QuestionLaws.{numbered, asked-sound, debtor-refused, debtor-answered}
use Rattle.posting.proofs.BookLaws.{rows-lie, journal-summable}
use Rattle.rules.specs.Tables.{tables_with}
use Rattle.std.proofs.Common.{rules}
use Rattle.std.specs.Prelude.{Err}
use mathlib.Core.Path.{◌≡◌}
use Rattle.call_questions.proofs.debtor.Goals as goal
use Rattle.lent.specs.Lent.{lent}

pub returns-in_err-check_question : goal.returns-in_err-check_question
returns-in_err-check_question c =
    let q : c.from_residual.result ≡ Err c.in_err-check_question.field-0.0 = search rules in
    rw q (debtor-refused (tables_with c.args.holidays.now (lent c.args.t)) _ _ (numbered c.natural-n.ensures c.ranges.account) _ c.in_err-check_question.ensures)

pub rows-requires : goal.rows-requires
rows-requires c = rows-lie _ (asked-sound _ _ c.in_ok-check_question.ensures)

pub invariant_of-summable : goal.invariant_of-summable
invariant_of-summable c =
    rw (c.rows.ensures.journal, c.rows.ensures.used) (record { amounts = journal-summable _ (asked-sound _ _ c.in_ok-check_question.ensures) })

pub returns : goal.returns
returns c =
    debtor-answered (tables_with c.args.holidays.now (lent c.args.t)) _ _ (numbered c.natural-n.ensures c.ranges.account) c.in_ok-check_question.ensures
    c.rows.ensures.used _ (rw (c.rows.ensures.journal) at c.judge_debtor.ensures.heavy) (rw (c.rows.ensures.journal) at c.judge_debtor.ensures.rows)
