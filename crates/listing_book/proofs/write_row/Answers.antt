-- `write_row` meets its contract: six fields, one after the other.
use Rattle.listing_rules.specs.Texts.{field, line, row_text}
use Rattle.decimal.proofs.WritingLaws.{appended}
use Rattle.listing_book.proofs.write_row.Goals as goal

pub returns-clause-text : goal.returns-clause-text
unfolding row_text field line
returns-clause-text g c =
    let two = appended _ _ _ _ _ c.write_field.ensures.text c.write_field-2.ensures.text in
    let three = appended _ _ _ _ _ two c.write_field-3.ensures.text in
    let four = appended _ _ _ _ _ three c.write_day_field.ensures.text in
    let five = appended _ _ _ _ _ four c.write_field-4.ensures.text in
    appended _ _ _ _ _ five c.write_field-5.ensures.text
