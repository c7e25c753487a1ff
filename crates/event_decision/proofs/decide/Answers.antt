-- `decide` meets its contract: refused, the tables stay; accepted, they hold the book as the verdict makes it, settled.
use Rattle.std.proofs.Common.{rules}
use Rattle.std.specs.Prelude.{◌≡◌, Err}
use borrow.Author.Tests.{eq-eqb, ne_eqb}
use native.Mathlib.Omega.{arith}
use Rattle.rules.proofs.TableLaws.{header-length}
use Rattle.posting.proofs.BookLaws.{used-small}
use Rattle.posting_laws.proofs.AnyHolidays.{posts-any, refused-any}
use Rattle.event_decision.proofs.DecisionLaws.{releasable, rejected-puts, upholdable, upheld-settles, upheld-begins, upheld-posts}
use Rattle.event_decision.proofs.decide.Goals as goal

pub returns-in_err-check_decision : goal.returns-in_err-check_decision
returns-in_err-check_decision c =
    let q : c.from_residual.result ≡ Err c.in_err-check_decision.field-0.0 = search rules in
    rw q (refused-any _ c.requires.0 c.args.e _ (rw c.requires.1) c.in_err-check_decision.ensures)

pub used-used-requires : goal.used-used-requires
used-used-requires c = omega (arith, header-length _ c.requires.0)

pub uphold-requires : goal.uphold-requires
uphold-requires c =
    let p = c.requires in
    upholdable _ p.0 _ p.1 c.in_ok-check_decision.ensures (eq-eqb _ _ c.if-e-eq-CODE_YES.true)

pub overflow_add-used : goal.overflow_add-used
overflow_add-used c =
    let u = c.used-used.ensures in
    omega (arith, used-small _ c.requires.0)

pub settle_from-requires : goal.settle_from-requires
settle_from-requires c =
    let p = c.requires in
    rw c.used-used.ensures (upheld-settles _ p.0 _ p.1 c.in_ok-check_decision.ensures (eq-eqb _ _ c.if-e-eq-CODE_YES.true) _ _ c.uphold.ensures, upheld-begins _ p.0 _ p.1 c.in_ok-check_decision.ensures (eq-eqb _ _ c.if-e-eq-CODE_YES.true) _ _ c.uphold.ensures _ p.2)

pub posted-requires : goal.posted-requires
posted-requires c =
    let u = c.used-used.ensures in
    omega (arith, used-small _ c.requires.0)

pub returns-then-e-eq-CODE_YES : goal.returns-then-e-eq-CODE_YES
returns-then-e-eq-CODE_YES c =
    let p = c.requires in
    let d = rw c.used-used.ensures at c.settle_from.ensures in
    rw (c.posted.ensures, c.used-used.ensures)
    (posts-any _ _ c.args.e _ (rw p.1)
    (upheld-posts _ p.0 _ p.1 c.in_ok-check_decision.ensures (eq-eqb _ _ c.if-e-eq-CODE_YES.true) _ _ c.uphold.ensures _ d))

pub freed_row-free-requires : goal.freed_row-free-requires
freed_row-free-requires c =
    let p = c.requires in
    releasable _ p.0 _ p.1 c.in_ok-check_decision.ensures

pub put_and_settle-requires : goal.put_and_settle-requires
put_and_settle-requires c =
    let p = c.requires in
    (p.0, p.2, rw c.freed_row-free.ensures (rejected-puts _ p.0 _ p.1 c.in_ok-check_decision.ensures (ne_eqb _ _ c.if-e-eq-CODE_YES.false)))
