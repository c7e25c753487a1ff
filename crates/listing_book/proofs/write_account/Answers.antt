-- `write_account` meets its contract: nothing of an unused account, else three fields.
use Rattle.std.proofs.Common.{sym, append-nil}
use Rattle.records.specs.Encoding.{rows_of}
use Rattle.listing_rules.specs.Texts.{field, line}
use Rattle.decimal.proofs.WritingLaws.{appended}
use Rattle.listing_book.proofs.ListedLaws.{account-unused, account-used}
use Rattle.listing_book.proofs.write_account.Goals as goal

pub returns-then-x-eq-STATE_UNUSED-clause-text : goal.returns-then-x-eq-STATE_UNUSED-clause-text
returns-then-x-eq-STATE_UNUSED-clause-text g c =
    λ b e. rw (← account-unused b c.args.n c.args.x c.if-x-eq-STATE_UNUSED.true) (sym (append-nil _))

pub returns-clause-text : goal.returns-clause-text
unfolding field line
returns-clause-text g c =
    let a = c.args in
    let two = appended _ _ _ _ _ c.write_field.ensures.text c.write_field-2.ensures.text in
    let three = appended _ _ _ _ _ two c.write_balance.ensures.text in
    λ b e. rw (← account-used b a.n a.x (rows_of a.summable.rows.journal.now a.summable.rows.used) e c.if-x-eq-STATE_UNUSED.false) three
