-- `judge_tick` meets its contract: each way through the tests is a case of the table.
use native.Mathlib.Omega.{arith}
use mathlib.Core.Path.{refl, sym, ap, ◌∙◌}
use borrow.Author.Tests.{eq-eqb, ne_eqb, not-true, not-false, true-leb, false-leb}
use mathlib.Core.Bool.{true, false}
use Rattle.lists.specs.Tests.{first}
use Rattle.rules.specs.Tables.{tables_with}
use Rattle.rules.proofs.TableLaws.{header-length, sound-book}
use Rattle.posting.proofs.BookLaws.{used-small, day-read}
use Rattle.lent.specs.Lent.{lent_mut}
use Rattle.event_tick.proofs.AnyHolidays.{admitted-with}
use Rattle.event_tick.proofs.TickLaws.{tick-by, tick-lacks, tick-fits}
use Rattle.event_tick.proofs.judge_tick.Goals as goal

pub day-requires : goal.day-requires
day-requires c = omega (arith, header-length _ c.requires.0)

pub returns-then-day-eq-FINAL_DAY : goal.returns-then-day-eq-FINAL_DAY
unfolding first
returns-then-day-eq-FINAL_DAY c =
    record {
      number = tick-by _ _ (sound-book _ c.requires.0) c.requires.1 (admitted-with c.args.holidays.now (lent_mut c.args.t.now) _ c.requires.2) true _
          (eq-eqb _ _ (sym (day-read _ c.requires.0) ∙ sym c.day.ensures ∙ c.if-day-eq-FINAL_DAY.true)) refl;
      plan = tt;
    }

pub plan_tick-plan-requires : goal.plan_tick-plan-requires
plan_tick-plan-requires c =
    let g = c.read.ensures in
    (rw (ap (tables_with c.args.holidays.now) g.tables) c.requires.0, rw (g.header, g.journal) c.requires.3)

pub has_room-requires : goal.has_room-requires
has_room-requires c =
    (omega (arith, header-length _ c.requires.0), omega (arith, used-small _ c.requires.0, c.plan_tick-plan.ensures.few))

pub returns-then-not-has_room : goal.returns-then-not-has_room
unfolding first
returns-then-not-has_room c =
    let p = rw (ap (tables_with c.args.holidays.now) c.read.ensures.tables) at c.plan_tick-plan.ensures in
    record {
      number = tick-by _ _ (sound-book _ c.requires.0) c.requires.1 (admitted-with c.args.holidays.now (lent_mut c.args.t.now) _ c.requires.2) false true (ne_eqb _ _ (λ z. c.if-day-eq-FINAL_DAY.false (c.day.ensures ∙ day-read _ c.requires.0 ∙ z)))
          (tick-lacks _ c.requires.0 _ p.added (false-leb _ _ (sym (not-true _ c.if-not-has_room.true-raw) ∙ c.has_room.ensures)));
      plan = tt;
    }

pub returns : goal.returns
unfolding first
returns c =
    let p = rw (ap (tables_with c.args.holidays.now) c.read.ensures.tables) at c.plan_tick-plan.ensures in
    record {
      number = tick-by _ _ (sound-book _ c.requires.0) c.requires.1 (admitted-with c.args.holidays.now (lent_mut c.args.t.now) _ c.requires.2) false false (ne_eqb _ _ (λ z. c.if-day-eq-FINAL_DAY.false (c.day.ensures ∙ day-read _ c.requires.0 ∙ z)))
          (tick-fits _ c.requires.0 _ p.added (true-leb _ _ (sym (not-false _ c.if-not-has_room.false-raw) ∙ c.has_room.ensures)));
      plan = p;
    }
