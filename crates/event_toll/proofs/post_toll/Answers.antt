-- `post_toll` meets its contract: refused, the tables stay; accepted, they hold the book with the toll settled.
use Rattle.std.proofs.Common.{rules}
use Rattle.std.specs.Prelude.{◌≡◌, Err}
use mathlib.Core.Path.{refl}
use Rattle.posting_laws.proofs.AnyHolidays.{posts-any, refused-any}
use Rattle.event_ends.proofs.AddedLaws.{row-settles}
use Rattle.event_toll.proofs.TollLaws.{toll-fits, toll-storable, toll-posts}
use Rattle.event_toll.proofs.post_toll.Goals as goal

pub returns-in_err-class : goal.returns-in_err-class
returns-in_err-class c =
    let q : c.from_residual.result ≡ Err c.in_err-class.field-0.0 = search rules in
    rw q (refused-any _ c.requires.0 c.args.e _ (rw c.requires.1) c.in_err-class.ensures.number)

pub toll_row-r-requires : goal.toll_row-r-requires
toll_row-r-requires c = (c.requires.0, c.requires.1, c.in_ok-class.ensures.number, c.in_ok-class.ensures.class)

pub add_and_settle-requires : goal.add_and_settle-requires
add_and_settle-requires c =
    let s = c.requires.0 in
    let k = c.requires.1 in
    let q = c.in_ok-class.ensures.number in
    rw c.toll_row-r.ensures (row-settles _ s _ (toll-fits _ s _ k q) (toll-storable _ s _ k q) _ _ c.requires.2 refl)

pub returns : goal.returns
returns c =
    let s = c.requires.0 in
    let k = c.requires.1 in
    let q = c.in_ok-class.ensures.number in
    let d = rw c.toll_row-r.ensures at c.add_and_settle.ensures.settled in
    rw (c.add_and_settle.ensures.answer)
    (posts-any _ _ c.args.e _ (rw k) (toll-posts _ s _ k q _ _ _ d.added d.settled))
