-- `dates::date_of` meets its contract: the date is read off the month that the day lies in.
use native.Mathlib.Omega.{arith}
use borrow.Author.Rules.{rules}
use Rattle.dates.proofs.GregorianLaws.{month-in-century, date_of-month}
use Rattle.dates.proofs.date_of.Goals as goal

pub month_start-requires : goal.month_start-requires
month_start-requires c =
    let early = month-in-century _ _ c.month_of-m.ensures (search rules) in
    omega arith

pub returns : goal.returns
returns c =
    let lies = c.month_of-m.ensures in
    rw (c.month_start.ensures, date_of-month _ _ (month-in-century _ _ lies (search rules)) lies)
