-- `topup_result` meets its contract: refused, the tables stay; paid or declined, they hold the book after it.
use Rattle.std.proofs.Common.{rules}
use Rattle.std.specs.Prelude.{◌≡◌, Err}
use native.Mathlib.Omega.{arith}
use Rattle.rules.proofs.TableLaws.{header-length}
use Rattle.posting.proofs.BookLaws.{day-read}
use Rattle.posting_laws.proofs.AnyHolidays.{posts-any, refused-any}
use Rattle.event_topup.proofs.DeclinedLaws.{declined-puts}
use Rattle.event_topup.proofs.topup_result.Goals as goal

pub returns-in_err-check_result-clause-posts : goal.returns-in_err-check_result-clause-posts
returns-in_err-check_result-clause-posts c =
    let q : c.from_residual.result ≡ Err c.in_err-check_result.field-0.0 = search rules in
    rw q (refused-any _ c.requires.0 c.args.e _ (rw c.requires.1) c.in_err-check_result.ensures)

pub pay_topup-requires : goal.pay_topup-requires
pay_topup-requires c =
    (record { sound = c.requires.0; kind = c.requires.1; accepted = c.in_ok-check_result.ensures; paid = c.if-e-eq-CODE_YES.true }, c.requires.2, c.requires.4)

pub returns-then-e-eq-CODE_YES-clause-posts : goal.returns-then-e-eq-CODE_YES-clause-posts
returns-then-e-eq-CODE_YES-clause-posts c = posts-any _ _ c.args.e _ (rw c.requires.1) c.pay_topup.ensures.posts

pub day-requires : goal.day-requires
day-requires c = omega (arith, header-length _ c.requires.0)

pub put_account-requires : goal.put_account-requires
put_account-requires c =
    let s = c.requires.0 in
    let declined = declined-puts _ s _ c.requires.1 c.in_ok-check_result.ensures c.if-e-eq-CODE_YES.false in
    (s, rw (c.decline-declined.ensures, c.day.ensures, c.last_decline.ensures, c.requires.4, day-read _ s) declined)
