-- `push_digits` meets its contract: the kit's digits are appended.
use Rattle.std.proofs.Common.{arith, rules, ◌∙◌}
use Rattle.decimal.proofs.WritingLaws.{decimal-digits}
use Rattle.decimal.proofs.text.Text.push_digits.Goals as goal

pub extend_from_slice-requires : goal.extend_from_slice-requires
extend_from_slice-requires g c =
    (search rules, rw (c.as_bytes.ensures.value, c.format.ensures.text, decimal-digits c.args.n (omega arith)) c.requires)

pub returns : goal.returns
returns g c =
    let same = c.as_bytes.ensures.value ∙ c.format.ensures.text ∙ decimal-digits c.args.n (omega arith) in
    rw (← same) c.extend_from_slice.ensures
