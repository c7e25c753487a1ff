-- `put_and_settle` meets its contract: the tables hold the book with the row changed and its account settled.
use native.Mathlib.Omega.{arith}
use borrow.Author.Tests.{eqb-false}
use Rattle.rules.proofs.TableLaws.{header-length}
use Rattle.posting.proofs.BookLaws.{used-small, used-room}
use Rattle.posting_laws.proofs.AnyHolidays.{posts-any}
use Rattle.posting_laws.proofs.EventLaws.{named-no-tick}
use Rattle.posting_laws.proofs.PutRowLaws.{row-used, put-settles, put-posts}
use Rattle.event_lookups.proofs.LookupLaws.{still_before, still-put, begun-still, row-at}
use Rattle.event_ends.proofs.put_and_settle.Goals as goal

pub get-used-requires : goal.get-used-requires
get-used-requires c = omega (arith, header-length _ c.requires.0)

pub overflow_sub-e : goal.overflow_sub-e
overflow_sub-e c = (row-used _ c.requires.0 _ c.requires.2.stands).0

pub write_row-requires : goal.write_row-requires
write_row-requires c = (
  omega (arith, row-used _ c.requires.0 _ c.requires.2.stands, used-room _ c.requires.0),
  c.requires.2.storable,
)

pub settle_from-requires : goal.settle_from-requires
settle_from-requires c =
    let s = c.requires.0 in
    let p = c.requires.2 in
    let w = c.write_row.ensures in
    let i = row-used _ s _ p.stands in
    rw c.get-used.ensures (
      put-settles _ s _ p.accepted _ p.change p.stands _ w p.storable.amount,
      begun-still _ _ _ _ _ c.requires.1 (omega arith)
          (still-put _ _ _ _ _ _ w (still_before _ _ _ c.requires.1) _ (row-at _ s _ i.0 i.1) p.kind p.account p.amount p.settled),
    )

pub posted-requires : goal.posted-requires
posted-requires c =
    let u = c.get-used.ensures in
    omega (arith, used-small _ c.requires.0)

pub returns : goal.returns
returns c =
    let p = c.requires.2 in
    let d = rw c.get-used.ensures at c.settle_from.ensures in
    rw c.posted.ensures
    (posts-any _ _ c.args.e _ (named-no-tick c.args.e p.names-account)
    (put-posts _ c.requires.0 _ p.accepted _ p.change p.stands _ c.write_row.ensures (eqb-false _ _ p.keeps-topup) p.names-account _ d))
