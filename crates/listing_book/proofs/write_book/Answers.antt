-- `write_book` meets its contract: names, rows, names, accounts, one after the other.
use Rattle.std.proofs.Common.{arith, rules}
use Rattle.posting.proofs.BookLaws.{rows-lie, journal-summable}
use Rattle.listing_rules.specs.Texts.{bytes_of, line}
use Rattle.listing_book.proofs.ListedLaws.{sound-dated, book-listed}
use Rattle.lent.specs.Lent.{lent}
use Rattle.listing_book.proofs.write_book.Goals as goal

pub rows-rows-requires : goal.rows-rows-requires
rows-rows-requires g c = rows-lie _ c.requires.sound

pub write_rows-requires : goal.write_rows-requires
write_rows-requires g c =
    let r = c.rows-rows.ensures in
    (search rules, (omega (arith, r.used, c.requires.room), rw (r.journal, r.used) (sound-dated _ c.requires.sound)))

pub invariant_of-write_accounts : goal.invariant_of-write_accounts
invariant_of-write_accounts g c =
    let r = c.rows-rows.ensures in
    rw (r.journal, r.used) (record { amounts = journal-summable _ c.requires.sound })

pub write_accounts-requires : goal.write_accounts-requires
write_accounts-requires g c = omega (arith, c.rows-rows.ensures.used, c.requires.room)

pub returns : goal.returns
unfolding line bytes_of
returns g c =
    let a = c.args in
    let r = c.rows-rows.ensures in
    book-listed (lent a.t) c.requires.sound _ r.used _ _ _ _ _
    c.extend_from_slice.ensures.text (rw r.journal at c.write_rows.ensures.text) c.extend_from_slice-2.ensures.text (rw r.journal at c.write_accounts.ensures.text)
