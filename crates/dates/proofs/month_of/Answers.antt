-- `dates::month_of` meets its contract: of the two months that the estimate leaves, the comparison picks the one that the day lies in.
use borrow.Author.Rules.{rules}
use Rattle.dates.proofs.EstimateLaws.{near-in-century, near_before}
use Rattle.dates.proofs.month_of.Goals as goal

pub month_start-requires : goal.month_start-requires
month_start-requires c = near-in-century _ _ c.estimate-next.ensures (search rules)

pub overflow_sub-result : goal.overflow_sub-result
overflow_sub-result c =
    let early = rw c.month_start.ensures at c.if-day-month_start.true in
    (near_before _ _ c.estimate-next.ensures early).0

pub returns-then-day-month_start : goal.returns-then-day-month_start
returns-then-day-month_start c =
    let early = rw c.month_start.ensures at c.if-day-month_start.true in
    (near_before _ _ c.estimate-next.ensures early).1

pub returns-else-day-month_start : goal.returns-else-day-month_start
returns-else-day-month_start c =
    record {
      begun = rw c.month_start.ensures at c.if-day-month_start.false;
      lasts = c.estimate-next.ensures.lasts;
    }
