-- `request_close` meets its contract: refused, the tables stay; accepted, they hold the book with the account pending.
use borrow.Author.Tests.{eq-eqb, ne_eqb}
use native.Mathlib.Omega.{arith}
use Rattle.records.specs.declared.refusals.Refusal.TheVariants.{Untimely}
use mathlib.Core.Bool.{true, false}
use Rattle.lists.specs.Tests.{first}
use Rattle.rules.proofs.TableLaws.{header-length}
use Rattle.posting.proofs.BookLaws.{day-read}
use Rattle.posting_laws.proofs.AnyHolidays.{refused-any}
use Rattle.event_accounts.proofs.RequestLaws.{request-by, request-puts}
use Rattle.event_accounts.proofs.request_close.Goals as goal

pub returns-then-x-eq-STATE_PENDING : goal.returns-then-x-eq-STATE_PENDING
unfolding first
returns-then-x-eq-STATE_PENDING c =
    refused-any _ c.requires.0 c.args.e Untimely (rw c.requires.1)
    (request-by _ c.requires.0 _ c.requires.1 c.requires.2 true (rw (← c.requires.3) (eq-eqb _ _ c.if-x-eq-STATE_PENDING.true)))

pub day-requires : goal.day-requires
day-requires c = omega (arith, header-length _ c.requires.0)

pub put_account-requires : goal.put_account-requires
unfolding first
put_account-requires c =
    let s = c.requires.0 in
    let q = request-by _ s _ c.requires.1 c.requires.2 false (rw (← c.requires.3) (ne_eqb _ _ c.if-x-eq-STATE_PENDING.false)) in
    (s, rw (c.request_close-pending.ensures, c.day.ensures, c.requires.3, day-read _ s) (request-puts _ s _ c.requires.1 q))
