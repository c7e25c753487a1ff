-- `read_number` meets its contract: a minus first, or digits alone.
use Rattle.std.proofs.Common.{◌∙◌}
use Rattle.decimal.proofs.ReadingLaws.{number-minus, number-plain}
use Rattle.decimal.proofs.read_number.Goals as goal

pub returns-in-Some : goal.returns-in-Some
returns-in-Some c = let e = c.in-Some.ensures.cases in c.read_minus.ensures ∙ number-minus _ _ e.0 e.1

pub returns-in-None : goal.returns-in-None
returns-in-None c = c.read_plain.ensures ∙ number-plain _ c.in-None.ensures.cases
