-- `write_day_field` meets its contract: the ten bytes of the date, then a comma.
use Rattle.listing_rules.specs.Texts.{field}
use Rattle.decimal.proofs.WritingLaws.{appended}
use Rattle.listing_book.proofs.write_day_field.Goals as goal

pub returns-clause-text : goal.returns-clause-text
unfolding field
returns-clause-text g c = appended _ _ _ _ _ c.push_date.ensures.text c.push.ensures.text
