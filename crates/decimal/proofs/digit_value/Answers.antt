-- `digit_value` meets its contract: among the digits or not.
use Rattle.std.proofs.Common.{inl, inr}
use Rattle.decimal.proofs.ReadingLaws.{digit-within, digit-early, digit-late}
use Rattle.decimal.proofs.digit_value.Goals as goal

pub returns-then-is_ascii_digit : goal.returns-then-is_ascii_digit
returns-then-is_ascii_digit c = digit-within c.args.b c.if-is_ascii_digit.ensures.cases.0 c.if-is_ascii_digit.ensures.cases.1

pub returns-else-is_ascii_digit : goal.returns-else-is_ascii_digit
returns-else-is_ascii_digit c = elim c.if-is_ascii_digit.ensures.cases [
  | inl early ↦ digit-early c.args.b early
  | inr late ↦ digit-late c.args.b late
]
