-- `open_book` meets its contract: refused, it writes nothing; else the tables written are the opened book's.
use Rattle.std.proofs.Common.{rules}
use Rattle.std.specs.Prelude.{◌≡◌, Err}
use Rattle.rules.specs.Tables.{tables_with}
use Rattle.lent.specs.Lent.{lent_mut}
use Rattle.call_opening.proofs.OpenedLaws.{Taken, taken, opening-refused, opened}
use Rattle.call_opening.proofs.open_book.Goals as goal
use Rattle.call_opening.proofs.open_book.Goals.{In_ok-check_opening}

-- an opening that is not refused
run : (c : In_ok-check_opening) → Taken c.args.t.now.header.now c.args.t.now.accounts.now c.args.t.now.journal.now c.args.holidays.now c.args.schedule.now
run c = taken _ _ _ _ _ c.in_ok-check_opening.ensures

pub returns-in_err-check_opening-clause-gives : goal.returns-in_err-check_opening-clause-gives
returns-in_err-check_opening-clause-gives c =
    let q : c.from_residual.result ≡ Err c.in_err-check_opening.field-0.0 = search rules in
    rw q (opening-refused c.args.holidays.now (lent_mut c.args.t.now) _ _ c.in_err-check_opening.ensures)

pub write_header-requires : goal.write_header-requires
write_header-requires c =
    let k = run (goal.at.write_header-requires c).In_ok-check_opening in
    (k.lengths.words, k.words)

pub returns-clause-gives : goal.returns-clause-gives
returns-clause-gives c =
    rw (c.write_header.ensures (tables_with c.args.holidays.now (lent_mut c.args.t.now)), c.fill.ensures.after (λ y e. e), c.fill-2.ensures.after (λ y e. e))
    (opened _ _ _ _ _ (run (goal.at.returns-clause-gives c).In_ok-check_opening))
