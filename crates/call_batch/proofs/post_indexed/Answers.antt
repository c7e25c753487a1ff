-- `post_indexed` meets its contract: forwarded, it is refused by a shared refusal, at which tables and index stay, or posted by what
-- the index has for it, and the index is that of the tables after it.
use Rattle.std.proofs.Common.{rules}
use Rattle.std.specs.Prelude.{◌≡◌, Err}
use native.Mathlib.Omega.{arith}
use mathlib.Core.Path.{sym}
use Rattle.rules.proofs.HolidayTables.{sound-without}
use Rattle.rules.proofs.TableLaws.{header-length}
use Rattle.posting_laws.proofs.AddedLaws.{posts-refused}
use Rattle.event_heirs.proofs.HeirLaws.{forwarded-any}
use Rattle.event_refusals.proofs.AdmissionLaws.{admits-refused, admits-with}
use Rattle.lent.specs.Lent.{lent_mut}
use Rattle.batch_index.proofs.KeptLaws.{update-asked}
use Rattle.call_batch.proofs.post_indexed.Goals as goal

pub returns-in_err-x-clause-posts : goal.returns-in_err-x-clause-posts
returns-in_err-x-clause-posts c =
    let q : c.from_residual.result ≡ Err c.in_err-x.field-0.0 = search rules in
    let f = rw c.read-tables.ensures.tables at c.forward-e.ensures in
    let a = admits-with c.args.holidays.now (lent_mut c.args.t.now) _ _ (rw c.read-tables.ensures.tables at c.in_err-x.ensures) in
    rw (q, forwarded-any, ← f) (posts-refused _ c.requires.0 _ _ (admits-refused _ _ _ a))

pub admit-requires : goal.admit-requires
admit-requires c = rw c.read-tables.ensures.tables (sound-without c.args.holidays.now (lent_mut c.args.t.now) c.requires.0)

pub used-before-requires : goal.used-before-requires
used-before-requires c = omega (arith, header-length _ c.requires.0)

pub look_up-k-requires : goal.look_up-k-requires
look_up-k-requires c =
    rw c.read-tables.ensures.tables (sound-without c.args.holidays.now (lent_mut c.args.t.now) c.requires.0, c.requires.1)

pub post_admitted-outcome-requires : goal.post_admitted-outcome-requires
post_admitted-outcome-requires c =
    let a = rw c.read-tables.ensures.tables at c.in_ok-x.ensures in
    (c.requires.0, rw c.read-tables.ensures.tables at c.look_up-k.ensures, sym a.number, a.account)

pub update-requires : goal.update-requires
update-requires c =
    let g = c.read.ensures in
    let a =
    update-asked c.args.holidays.now (lent_mut c.args.t.now) (lent_mut c.post_admitted-outcome.new.t) _ _ _
    c.used-before.ensures c.requires.0 c.post_admitted-outcome.ensures.posts _ c.requires.1 in
    (rw g.tables a.0, rw g.header a.1, rw g.tables a.2)

pub returns-clause-posts : goal.returns-clause-posts
returns-clause-posts c =
    let f = rw c.read-tables.ensures.tables at c.forward-e.ensures in
    rw (forwarded-any, ← f) c.post_admitted-outcome.ensures.posts

pub returns-clause-indexed : goal.returns-clause-indexed
returns-clause-indexed c = rw c.read.ensures.tables at c.update.ensures
