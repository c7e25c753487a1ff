-- `batch_call` meets its contract: refused, it writes nothing; else, at each turn, the events before it are posted in order.
use Rattle.std.proofs.Common.{rules}
use Rattle.std.specs.Prelude.{◌≡◌, Err}
use native.Mathlib.Omega.{arith}
use mathlib.Core.Path.{refl, ap}
use Rattle.rules.specs.Tables.{tables_with}
use Rattle.rules.proofs.HolidayTables.{sound-without}
use Rattle.lent.proofs.LentLaws.{same-none, same-same}
use Rattle.call_batch.proofs.BatchCallLaws.{Taken, taken, batch-refused, after_none, after-sound, after-room, after_more, after-all}
use Rattle.call_batch.proofs.batch_call.Goals as goal
use Rattle.lent.specs.Lent.{lent_mut}
use Rattle.call_batch.proofs.batch_call.Goals.{In_ok-check_batch}

-- a batch that is not refused
run : (c : In_ok-check_batch) → Taken (tables_with c.args.holidays.now (lent_mut c.args.t.now)) c.args.events.now c.args.answers.now
run c =
    let e = ap (tables_with c.args.holidays.now) c.read.ensures.tables in
    taken _ _ _ (rw e at (c.in_ok-check_batch.ensures c.args.events.now refl))

pub returns-in_err-check_batch-clause-gives : goal.returns-in_err-check_batch-clause-gives
returns-in_err-check_batch-clause-gives c =
    let q : c.from_residual.result ≡ Err c.in_err-check_batch.field-0.0 = search rules in
    let e = ap (tables_with c.args.holidays.now) c.read.ensures.tables in
    rw q (batch-refused _ c.args.events.now _ _ (rw e at (c.in_err-check_batch.ensures c.args.events.now refl)))

pub start-requires : goal.start-requires
start-requires c =
    rw c.read-2.ensures.tables
    (sound-without c.args.holidays.now (lent_mut c.args.t.now) (run (goal.at.start-requires c).In_ok-check_batch).sound, c.new-index.ensures)

pub loop-i-init : goal.loop-i-init
loop-i-init c =
    let i = rw c.read-2.ensures.tables at c.start.ensures in
    (same-none c.args.t.now, after_none _ _ _ (run (goal.at.loop-i-init c).In_ok-check_batch), i)

pub post_record-requires : goal.post_record-requires
post_record-requires c =
    let r = run (goal.at.post_record-requires c).In_ok-check_batch in
    let h = c.loop-i.invariant.1 in
    (after-sound _ _ _ r _ _ _ h, after-room _ _ _ r _ _ _ h (omega arith), c.loop-i.invariant.2)

pub loop-i-preserved : goal.loop-i-preserved
loop-i-preserved c =
    let r = run (goal.at.loop-i-preserved c).In_ok-check_batch in (
      same-same c.args.t.now c.loop-i.t c.post_record.new.t c.loop-i.invariant.0 c.post_record.ensures.same,
      after_more _ _ _ r _ _ _ c.loop-i.invariant.1 (omega arith) _ _ c.post_record.auto.answers
          c.post_record.ensures.posts,
      c.post_record.ensures.indexed,
    )

pub returns-clause-gives : goal.returns-clause-gives
returns-clause-gives c = after-all _ _ _ (run (goal.at.returns-clause-gives c).In_ok-check_batch) _ _ _ c.loop-i.invariant.1 (omega arith)
