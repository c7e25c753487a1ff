-- `push_number` meets its contract: the kit's text of the number is appended.
use Rattle.std.proofs.Common.{◌∙◌}
use mir.Facts.{to_z-of_z}
use Rattle.decimal.proofs.WritingLaws.{signed-text}
use Rattle.decimal.proofs.text.Text.push_number.Goals as goal

pub returns-clause-text : goal.returns-clause-text
returns-clause-text g c =
    let formatted = rw (to_z-of_z c.ranges.v) at c.format.ensures.text in
    let same = c.as_bytes.ensures.value ∙ formatted ∙ signed-text c.args.v c.ranges.v in
    rw same at c.extend_from_slice.ensures.text
