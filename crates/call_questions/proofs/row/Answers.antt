-- `row` meets its contract: a used row's words lie in the journal.
use Rattle.call_questions.proofs.QuestionLaws.{numbered, no_row, row-part, Inside, row_inside}
use borrow.Author.Tests.{not-true, not-false}
use native.Mathlib.Omega.{arith}
use mathlib.Core.Path.{◌≡◌, refl, sym, ◌∙◌}
use mathlib.Core.Bool.{true, ◌&&◌}
use Rattle.lists.specs.Tests.{◌from◌to◌}
use Rattle.rules.specs.Tables.{tables_with, rows_used, sound_tables}
use Rattle.call_questions.proofs.row.Goals as goal
use Rattle.lent.specs.Lent.{lent}
use Rattle.call_questions.proofs.row.Goals.{Else-not-row_used}

-- a row that is used
there : (e : Else-not-row_used) → sound_tables (tables_with e.args.holidays.now (lent e.args.t)) && e.natural-n.result from 1 to rows_used (tables_with e.args.holidays.now (lent e.args.t)) ≡ true
there e = sym e.row_used.ensures ∙ not-false _ e.if-not-row_used.false-raw

inside : (e : Else-not-row_used) → Inside (tables_with e.args.holidays.now (lent e.args.t)) e.natural-n.result
inside e = row_inside (tables_with e.args.holidays.now (lent e.args.t)) e.natural-n.result (there e)

pub returns-then-not-row_used : goal.returns-then-not-row_used
returns-then-not-row_used c = no_row _ _ _ (numbered c.natural-n.ensures c.ranges.number) (sym c.row_used.ensures ∙ not-true _ c.if-not-row_used.true-raw) _

pub overflow_sub-start : goal.overflow_sub-start
overflow_sub-start c = omega (arith, (inside c).first)

pub overflow_mul-start : goal.overflow_mul-start
overflow_mul-start c = omega (arith, (inside c).few)

pub overflow_add-end : goal.overflow_add-end
overflow_add-end c = omega (arith, (inside c).few)

pub offset_bounds-t-start : goal.offset_bounds-t-start
offset_bounds-t-start c = omega (arith, (inside (goal.at.offset_bounds-t-start c).Else-not-row_used).few)

pub slice_bounds-result-end-2 : goal.slice_bounds-result-end-2
slice_bounds-result-end-2 c = omega (arith, (inside (goal.at.slice_bounds-result-end-2 c).Else-not-row_used).room)

pub returns : goal.returns
returns c = row-part (tables_with c.args.holidays.now (lent c.args.t)) _ _ (numbered c.natural-n.ensures c.ranges.number) _ (there (goal.at.returns c).Else-not-row_used) refl _
