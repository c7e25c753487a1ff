-- `write_end` meets its contract: a missing line, or the book.
use Rattle.std.proofs.Common.{arith, rules}
use Rattle.listing_steps.proofs.StepLaws.{end-missing, end-book, end-room}
use Rattle.listing_steps.proofs.write_end.Goals as goal

pub returns-then-lines-lt-FIRST_LINES : goal.returns-then-lines-lt-FIRST_LINES
returns-then-lines-lt-FIRST_LINES g c = rw (← end-missing c.args.lines _ (omega arith)) c.write_bad_line.ensures.text

pub write_book-requires : goal.write_book-requires
write_book-requires g c =
    let r = c.requires.0 in
    (search rules, (r.sound (omega arith), end-room c.args.lines _ _ _ r (omega arith) c.requires.1))

pub returns-else-lines-lt-FIRST_LINES : goal.returns-else-lines-lt-FIRST_LINES
returns-else-lines-lt-FIRST_LINES g c = rw (← end-book c.args.lines _ (omega arith)) c.write_book.ensures
