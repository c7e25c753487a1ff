-- `push_two` meets its contract: two bytes, each a digit.
use Rattle.decimal.specs.Decimal.{two_digits}
use Rattle.decimal.proofs.WritingLaws.{appended}
use Rattle.decimal.proofs.text.Text.push_two.Goals as goal

pub returns-clause-text : goal.returns-clause-text
unfolding two_digits
returns-clause-text g c = appended _ _ _ _ _ c.push.ensures.text c.push-2.ensures.text
