-- `rows::RowCounts::add_row` meets its contract: each sum and count takes the row's share.
use Rattle.std.proofs.Common.{rules}
use native.Mathlib.Omega.{arith}
use mathlib.Core.Bool.{not, ◌&&◌}
use Rattle.rules.specs.Rows.{held_toll}
use Rattle.rules.specs.Tick.{hold_ends}
use Rattle.tick_base.proofs.StageLaws.{no_end}
use Rattle.tick_plan.proofs.CountLaws.{stays-held, rows_more}
use Rattle.tick_plan.proofs.rows.RowCounts.add_row.Goals as goal

pub count_held-requires : goal.count_held-requires
count_held-requires c =
    (c.requires.0, (λ r. held_toll r && not (hold_ends c.args.self.now.today r)), record { takes = λ r. tt; gives = λ r b p. search rules; held = stays-held c.args.self.now.today }, c.requires.1.held)

pub count_held-requires-2 : goal.count_held-requires-2
count_held-requires-2 c =
    (c.requires.0, hold_ends c.args.self.now.today, record { takes = λ r. tt; gives = λ r b p. search rules; held = no_end c.args.self.now.today }, c.requires.1.ends)

pub mark_due-requires : goal.mark_due-requires
mark_due-requires c =
    let w = c.args.countable.now.countable in
    (omega (arith, w.room, c.requires.0), omega (arith, w.few, c.requires.0), c.requires.1.marks)

pub returns : goal.returns
returns c =
    let held = c.count_held.ensures (λ r. held_toll r && not (hold_ends c.args.self.now.today r)) (record { takes = λ r. tt; gives = λ r b p. search rules; held = stays-held c.args.self.now.today }) c.requires.1.held in
    let ends = c.count_held-2.ensures (hold_ends c.args.self.now.today) (record { takes = λ r. tt; gives = λ r b p. search rules; held = no_end c.args.self.now.today }) c.requires.1.ends in
    rw c.from.ensures (rows_more _ _ _ _ _ c.requires.1 _ _ _ c.add_row.ensures held ends _ c.brings_fee.ensures _ c.ends_at.ensures _ c.mark_due.ensures)
