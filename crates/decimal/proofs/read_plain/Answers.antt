-- `read_plain` meets its contract: the value of the digits, where a signed number holds it.
use Rattle.std.proofs.Common.{◌∙◌}
use Rattle.decimal.proofs.ReadingLaws.{plain-of, plain-held}
use Rattle.decimal.proofs.read_plain.Goals as goal

pub returns-in_err-read_digits : goal.returns-in_err-read_digits
returns-in_err-read_digits c = c.from_residual.ensures ∙ plain-of _ _ c.in_err-read_digits.ensures

pub returns : goal.returns
returns c = plain-held _ _ c.checked_add_unsigned.ensures ∙ plain-of _ _ c.in_ok-read_digits.ensures
