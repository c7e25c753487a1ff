-- `post_payment` meets its contract: refused, the tables stay; accepted, they hold the book with the payment settled.
use Rattle.std.proofs.Common.{rules}
use Rattle.std.specs.Prelude.{◌≡◌, Err}
use mathlib.Core.Path.{refl}
use Rattle.posting.proofs.BookLaws.{day-read}
use Rattle.posting_laws.proofs.AnyHolidays.{posts-any, refused-any}
use Rattle.event_ends.proofs.AddedLaws.{payment-settles}
use Rattle.event_payment.proofs.PaymentLaws.{payment-inside, payment-fits, payment-storable, payment-posts}
use Rattle.event_payment.proofs.post_payment.Goals as goal

pub returns-in_err-check_payment : goal.returns-in_err-check_payment
returns-in_err-check_payment c =
    let q : c.from_residual.result ≡ Err c.in_err-check_payment.field-0.0 = search rules in
    rw q (refused-any _ c.requires.0 c.args.e _ (rw c.requires.1) c.in_err-check_payment.ensures)

pub pay_and_settle-requires : goal.pay_and_settle-requires
pay_and_settle-requires c =
    let s = c.requires.0 in
    let k = c.requires.1 in
    let q = c.in_ok-check_payment.ensures in
    let i = payment-inside _ s _ k q in
    rw (day-read _ s) (payment-settles _ s _ (payment-fits _ s _ k q) (payment-storable _ s _ k q) _ _ c.requires.2 refl refl i.0 i.1)

pub returns : goal.returns
returns c =
    let s = c.requires.0 in
    let k = c.requires.1 in
    let q = c.in_ok-check_payment.ensures in
    let d = rw (day-read _ s) at c.pay_and_settle.ensures.settled in
    rw (c.pay_and_settle.ensures.answer)
    (posts-any _ _ c.args.e _ (rw k) (payment-posts _ s _ k q _ _ _ d.added d.settled (payment-fits _ s _ k q)))
