-- `pay_topup` meets its contract: the account is put back, the payment posted and settled.
use mathlib.Core.Path.{refl}
use Rattle.posting.proofs.BookLaws.{day-read, count-read}
use Rattle.event_ends.proofs.AddedLaws.{payment-settles}
use Rattle.event_topup.proofs.PaidLaws.{paid-inside, paid-in, paid-fits, paid-row-storable, paid-account-storable, paid-posts}
use Rattle.event_topup.proofs.pay_topup.Goals as goal

pub overflow_sub-e : goal.overflow_sub-e
overflow_sub-e c = (paid-inside _ _ c.requires.0).0

pub write_account-requires : goal.write_account-requires
write_account-requires c = (
  paid-in _ _ c.requires.0,
  rw (c.pay_topup-paid.ensures, c.requires.2) (paid-account-storable _ c.args.e c.requires.0),
)

pub pay_and_settle-requires : goal.pay_and_settle-requires
pay_and_settle-requires c =
    let p = c.requires.0 in
    let s = p.sound in
    let i = paid-inside _ _ p in
    rw (day-read _ s, c.requires.2)
    (payment-settles _ s _ (paid-fits _ _ p) (paid-row-storable _ c.args.e p) _ _ c.requires.1 refl refl i.0 (rw (← count-read _ s) i.1))

pub returns-clause-posts : goal.returns-clause-posts
returns-clause-posts c =
    let s = c.requires.0.sound in
    let changed = rw (c.pay_topup-paid.ensures, c.requires.2) at c.write_account.ensures in
    let d = rw (day-read _ s, c.requires.2) at c.pay_and_settle.ensures.settled in
    rw c.pay_and_settle.ensures.answer (paid-posts _ _ c.requires.0 _ _ _ _ changed d.added d.settled)
