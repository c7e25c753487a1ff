-- `post_call` meets its contract: refused before the event, the tables stay; else the event is posted.
use Rattle.std.proofs.Common.{rules}
use Rattle.std.specs.Prelude.{◌≡◌, Err}
use native.Mathlib.Omega.{arith}
use mathlib.Core.Path.{ap}
use Rattle.rules.specs.Tables.{tables_with}
use Rattle.call_event.proofs.EventCallLaws.{taken, refused-answers, posted-answers}
use Rattle.call_event.proofs.post_call.Goals as goal

pub returns-in_err-check_event-clause-answers : goal.returns-in_err-check_event-clause-answers
returns-in_err-check_event-clause-answers c =
    let q : c.from_residual.result ≡ Err c.in_err-check_event.field-0.0 = search rules in
    let e = ap (tables_with c.args.holidays.now) c.read.ensures.tables in
    rw q (refused-answers _ _ _ _ (rw e at c.in_err-check_event.ensures))

pub read_event-e-requires : goal.read_event-e-requires
read_event-e-requires c = omega (arith, (taken _ _ _ c.in_ok-check_event.ensures).event)

pub post_event-requires : goal.post_event-requires
post_event-requires c =
    let e = ap (tables_with c.args.holidays.now) c.read.ensures.tables in
    (taken _ _ _ (rw e at c.in_ok-check_event.ensures)).sound

pub returns-clause-answers : goal.returns-clause-answers
returns-clause-answers c =
    let e = ap (tables_with c.args.holidays.now) c.read.ensures.tables in
    posted-answers _ _ _ _ _ (rw e at c.in_ok-check_event.ensures)
    (rw c.read_event-e.ensures at c.post_event.ensures.posts)
