-- `tick` meets its contract: refused, the tables stay.
use Rattle.std.proofs.Common.{rules}
use native.Mathlib.Omega.{arith}
use Rattle.std.specs.Prelude.{◌≡◌, Err}
use Rattle.posting_laws.proofs.AddedLaws.{posts-refused}
use Rattle.lent.specs.Lent.{lent_mut}
use Rattle.rules.proofs.HolidayTables.{sound-without}
use Rattle.rules.proofs.TableLaws.{header-length}
use Rattle.posting.proofs.BookLaws.{day-small}
use Rattle.event_tick.proofs.TickLaws.{accepts-planned}
use Rattle.event_tick.proofs.tick.Goals as goal

pub day-requires : goal.day-requires
day-requires c = omega (arith, header-length _ c.requires.0)

pub overflow_add-day : goal.overflow_add-day
overflow_add-day c = omega (arith, c.day.ensures, day-small _ c.requires.0)

pub count_rows_to-requires : goal.count_rows_to-requires
count_rows_to-requires c =
    let g = c.read.ensures in
    (rw g.tables (sound-without c.args.holidays.now (lent_mut c.args.t.now) c.requires.0), λ h j. rw (g.header, ← c.day.ensures) (c.none-counts.ensures h j))

pub judge_tick-requires : goal.judge_tick-requires
judge_tick-requires c =
    let g = c.read.ensures in
    let counted = rw (g.header, g.journal) at c.count_rows_to.ensures in
    (c.requires.0, c.requires.1, c.requires.2, counted)

pub returns-in_err-plan-clause-posts : goal.returns-in_err-plan-clause-posts
returns-in_err-plan-clause-posts c =
    let q : c.from_residual.result ≡ Err c.in_err-plan.field-0.0 = search rules in
    rw q (posts-refused _ c.requires.0 _ _ c.in_err-plan.ensures.number)

pub carry_out-requires : goal.carry_out-requires
carry_out-requires c =
    let g = c.read.ensures in
    let counted = rw (g.header, g.journal) at c.count_rows_to.ensures in
    (c.args.holidays.now, accepts-planned _ c.requires.0 _ c.requires.1 _ c.in_ok-plan.ensures, counted)

pub returns-clause-posts : goal.returns-clause-posts
returns-clause-posts c = c.carry_out.ensures.posts _ (accepts-planned _ c.requires.0 _ c.requires.1 _ c.in_ok-plan.ensures)
