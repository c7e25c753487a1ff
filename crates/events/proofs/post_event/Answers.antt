-- `post_event` meets its contract: forwarded, it is refused by a shared refusal, at which the tables stay, or looked up and posted.
use Rattle.std.proofs.Common.{rules}
use Rattle.std.specs.Prelude.{◌≡◌, Err}
use mathlib.Core.Path.{sym, ap}
use Rattle.rules.specs.Tables.{tables_with}
use Rattle.rules.proofs.HolidayTables.{sound-without}
use Rattle.posting_laws.proofs.AddedLaws.{posts-refused}
use Rattle.event_refusals.proofs.AdmissionLaws.{admits-refused, admits-with}
use Rattle.event_heirs.proofs.HeirLaws.{forwarded-any}
use Rattle.lent.specs.Lent.{lent_mut}
use Rattle.events.proofs.post_event.Goals as goal

pub admit-requires : goal.admit-requires
admit-requires c = rw c.read-tables.ensures.tables (sound-without c.args.holidays.now (lent_mut c.args.t.now) c.requires)

pub returns-in_err-x-clause-posts : goal.returns-in_err-x-clause-posts
returns-in_err-x-clause-posts c =
    let q : c.from_residual.result ≡ Err c.in_err-x.field-0.0 = search rules in
    let f = rw c.read-tables.ensures.tables at c.forward-e.ensures in
    let a = admits-refused _ _ _ (admits-with c.args.holidays.now _ _ _ c.in_err-x.ensures) in
    let b = rw (ap (tables_with c.args.holidays.now) c.read-tables.ensures.tables) at a in
    rw (q, forwarded-any, ← f) (posts-refused _ c.requires _ _ b)

pub look_up-k-requires : goal.look_up-k-requires
look_up-k-requires c = rw c.read-tables.ensures.tables (sound-without c.args.holidays.now (lent_mut c.args.t.now) c.requires)

pub post_admitted-requires : goal.post_admitted-requires
post_admitted-requires c =
    let a = rw c.read-tables.ensures.tables at c.in_ok-x.ensures in
    (c.requires, rw c.read-tables.ensures.tables at c.look_up-k.ensures, sym a.number, a.account)

pub returns-clause-posts : goal.returns-clause-posts
returns-clause-posts c =
    let f = rw c.read-tables.ensures.tables at c.forward-e.ensures in
    rw (forwarded-any, ← f) c.post_admitted.ensures.posts
