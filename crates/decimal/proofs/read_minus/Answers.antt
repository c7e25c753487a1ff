-- `read_minus` meets its contract: minus the value of the digits, where a signed number holds it.
use Rattle.std.proofs.Common.{◌∙◌}
use Rattle.decimal.proofs.ReadingLaws.{minus-of, minus-held}
use Rattle.decimal.proofs.read_minus.Goals as goal

pub returns-in_err-read_digits : goal.returns-in_err-read_digits
returns-in_err-read_digits c = c.from_residual.ensures ∙ minus-of _ _ c.in_err-read_digits.ensures

pub returns : goal.returns
returns c = minus-held _ _ c.checked_sub_unsigned.ensures ∙ minus-of _ _ c.in_ok-read_digits.ensures
