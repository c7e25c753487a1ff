-- `toll_row` meets its contract: the row is read from the header, and its words fit.
use native.Mathlib.Omega.{arith}
use Rattle.rules.proofs.TableLaws.{header-length}
use Rattle.posting.proofs.BookLaws.{day-small, stage-small}
use Rattle.table_lists.proofs.OnDayLaws.{sound-lists}
use Rattle.event_toll.proofs.TollLaws.{rate-applies, toll-read}
use Rattle.event_toll.proofs.toll_row.Goals as goal

pub day-today-requires : goal.day-today-requires
day-today-requires c = omega (arith, header-length _ c.requires.0)

pub rate_of-amount-requires : goal.rate_of-amount-requires
rate_of-amount-requires c =
    let s = c.requires.0 in
    let r = rate-applies _ s _ c.requires.1 c.requires.2 in
    (sound-lists _ s, r.2, r.3)

pub get-requires : goal.get-requires
get-requires c = omega (arith, header-length _ c.requires.0)

pub overflow_add-result : goal.overflow_add-result
overflow_add-result c =
    let s = c.requires.0 in
    let d = c.day-today.ensures in
    let l = c.get.ensures in
    omega (arith, day-small _ s, stage-small _ s)

pub returns : goal.returns
returns c = toll-read _ c.requires.0 _ c.requires.1 c.requires.2 _ _ _ _ _ c.day-today.ensures c.get.ensures c.requires.3 c.rate_of-amount.ensures c.new_row.ensures
