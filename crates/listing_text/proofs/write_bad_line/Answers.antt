-- `write_bad_line` meets its contract: the words, then the number.
use Rattle.listing_rules.specs.Texts.{bytes_of, line, bad_line}
use Rattle.decimal.proofs.WritingLaws.{appended}
use Rattle.listing_text.proofs.write_bad_line.Goals as goal

pub returns-clause-text : goal.returns-clause-text
unfolding bad_line line bytes_of
returns-clause-text g c = appended _ _ _ _ _ c.extend_from_slice.ensures.text c.write_field.ensures.text
