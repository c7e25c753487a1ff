-- `put_account` meets its contract: the tables hold the book with the account changed.
use native.Mathlib.Omega.{arith}
use Rattle.rules.proofs.TableLaws.{header-length}
use Rattle.posting.proofs.BookLaws.{used-small}
use Rattle.posting_laws.proofs.AccountEventLaws.{named-inside, named_in, account-posts}
use Rattle.event_ends.proofs.put_account.Goals as goal

pub overflow_sub-e : goal.overflow_sub-e
overflow_sub-e c = (named-inside _ c.requires.0 _ c.requires.1.names-account c.requires.1.accepted).0

pub write_account-requires : goal.write_account-requires
write_account-requires c =
    let p = c.requires.1 in
    (named_in _ c.requires.0 _ p.names-account p.accepted, p.storable)

pub get-requires : goal.get-requires
get-requires c = omega (arith, header-length _ c.requires.0)

pub posted-requires : goal.posted-requires
posted-requires c =
    let u = c.get.ensures in
    omega (arith, used-small _ c.requires.0)

pub returns : goal.returns
returns c =
    let p = c.requires.1 in
    rw (c.posted.ensures, ← p.removes) (account-posts _ c.requires.0 _ p.names-account p.accepted _ p.change _ c.write_account.ensures)
