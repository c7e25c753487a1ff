-- `rows::RowCounts::any_closes` meets its contract: on a day that is no business day there is nothing to show.
use mathlib.Core.Bool.{true≢false}
use mathlib.Core.Path.{sym, ◌∙◌}
use borrow.Author.Tests.{not-true, not-false}
use Rattle.tick_plan.proofs.rows.RowCounts.any_closes.Goals as goal

pub is_business_day-requires : goal.is_business_day-requires
is_business_day-requires c = c.requires.1

pub returns-then-not-is_business_day-clause-none : goal.returns-then-not-is_business_day-clause-none
returns-then-not-is_business_day-clause-none c f due =
    let shut = sym c.is_business_day.ensures ∙ not-true _ c.if-not-is_business_day.true-raw in
    absurd (true≢false (sym due ∙ shut))

pub returns-clause-business : goal.returns-clause-business
returns-clause-business c e = sym c.is_business_day.ensures ∙ not-false _ c.if-not-is_business_day.false-raw
