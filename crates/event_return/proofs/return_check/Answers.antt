-- `return_check` meets its contract: refused, the tables stay; accepted, they hold the book with the check returned and settled.
use Rattle.std.proofs.Common.{rules}
use Rattle.std.specs.Prelude.{◌≡◌, Err}
use native.Mathlib.Omega.{arith}
use Rattle.rules.proofs.TableLaws.{header-length}
use Rattle.posting.proofs.BookLaws.{used-small}
use Rattle.posting_laws.proofs.AnyHolidays.{posts-any, refused-any}
use Rattle.event_return.proofs.ReturnLaws.{charge-le, return-counts, return-marks, marked-read, amount-read, reversal-read, reversal-storable, reversal-room, fee-read, fee-storable, fee-room, return-settles, return-begins, return-posts}
use Rattle.event_return.proofs.return_check.Goals as goal

pub returns-in_err-check_return-clause-posts : goal.returns-in_err-check_return-clause-posts
returns-in_err-check_return-clause-posts c =
    let q : c.from_residual.result ≡ Err c.in_err-check_return.field-0.0 = search rules in
    rw q (refused-any _ c.requires.0 c.args.e _ (rw c.requires.1) c.in_err-check_return.ensures)

pub used-used-requires : goal.used-used-requires
used-used-requires c = omega (arith, header-length _ c.requires.0)

pub count_return-requires : goal.count_return-requires
count_return-requires c =
    let s = c.requires.0 in
    let k = c.requires.1 in
    let q = c.in_ok-check_return.ensures in
    rw c.requires.4 (return-counts _ s _ k q)

pub mark_returned-amount-requires : goal.mark_returned-amount-requires
mark_returned-amount-requires c =
    let s = c.requires.0 in
    let k = c.requires.1 in
    let q = c.in_ok-check_return.ensures in
    return-marks _ s _ k q _ c.used-used.ensures

pub add_naming-requires : goal.add_naming-requires
add_naming-requires c =
    let s = c.requires.0 in
    let k = c.requires.1 in
    let q = c.in_ok-check_return.ensures in
    let u = c.used-used.ensures in
    let d = c.mark_returned-amount.ensures in
    let m = marked-read _ s _ k q _ _ _ u d in
    (reversal-room _ s _ k q _ m, rw (reversal-read _ s _ k q _ (amount-read _ s _ k q _ _ _ u d)) (reversal-storable _ s _ k q))

pub overflow_add-e : goal.overflow_add-e
overflow_add-e c =
    let s = c.requires.0 in
    let k = c.requires.1 in
    let q = c.in_ok-check_return.ensures in
    omega (arith, charge-le _ s _ k q)

pub add_naming-requires-2 : goal.add_naming-requires-2
add_naming-requires-2 c =
    let s = c.requires.0 in
    let k = c.requires.1 in
    let q = c.in_ok-check_return.ensures in
    let u = c.used-used.ensures in
    let d = c.mark_returned-amount.ensures in
    let m = marked-read _ s _ k q _ _ _ u d in
    let w = rw (reversal-read _ s _ k q _ (amount-read _ s _ k q _ _ _ u d)) at c.add_naming.ensures in
    (fee-room _ s _ k q _ m _ _ w, rw (fee-read _ s _ k q _ m _ _ w) (fee-storable _ s _ k q))

pub overflow_add-used : goal.overflow_add-used
overflow_add-used c =
    let u = c.used-used.ensures in
    omega (arith, used-small _ c.requires.0)

pub settle_from-requires : goal.settle_from-requires
settle_from-requires c =
    let s = c.requires.0 in
    let k = c.requires.1 in
    let q = c.in_ok-check_return.ensures in
    let u = c.used-used.ensures in
    let d = c.mark_returned-amount.ensures in
    let m = marked-read _ s _ k q _ _ _ u d in
    let w = rw (reversal-read _ s _ k q _ (amount-read _ s _ k q _ _ _ u d)) at c.add_naming.ensures in
    let v = rw (fee-read _ s _ k q _ m _ _ w) at c.add_naming-2.ensures in
    rw u (return-settles _ s _ k q _ m _ _ w _ _ v, return-begins _ s _ k q _ m _ _ w _ _ v _ c.requires.2)

pub posted-requires : goal.posted-requires
posted-requires c =
    let u = c.used-used.ensures in
    omega (arith, used-small _ c.requires.0)

pub returns-clause-posts : goal.returns-clause-posts
returns-clause-posts c =
    let s = c.requires.0 in
    let k = c.requires.1 in
    let q = c.in_ok-check_return.ensures in
    let u = c.used-used.ensures in
    let d = c.mark_returned-amount.ensures in
    let m = marked-read _ s _ k q _ _ _ u d in
    let w = rw (reversal-read _ s _ k q _ (amount-read _ s _ k q _ _ _ u d)) at c.add_naming.ensures in
    let v = rw (fee-read _ s _ k q _ m _ _ w) at c.add_naming-2.ensures in
    let a = rw c.requires.4 at c.count_return.ensures in
    let z = rw u at c.settle_from.ensures in
    rw (c.posted.ensures, u) (posts-any _ _ c.args.e _ (rw k) (return-posts _ s _ k q _ m _ _ w _ _ v _ _ a z))
