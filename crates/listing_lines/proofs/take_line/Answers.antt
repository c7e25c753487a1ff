-- `take_line` meets its contract: a bad line is printed as such.
use Rattle.std.proofs.Common.{◌∙◌, ap, Bool}
use mathlib.Core.Bool.{not}
use Rattle.listing_lines.proofs.TakenLaws.{taken-bad, taken-good}
use Rattle.listing_lines.proofs.take_line.Goals as goal

pub returns-then-is_err-clause-taken : goal.returns-then-is_err-clause-taken
returns-then-is_err-clause-taken g c =
    let w = c.write_bad_line.ensures in
    taken-bad _ _ _ _ _ _ _ _ (c.is_err.ensures.negation ∙ ap (λ (b : Bool). not b) c.if-is_err.true) c.carry_out-taken.ensures.carried w.text w.short

pub returns-else-is_err-clause-taken : goal.returns-else-is_err-clause-taken
returns-else-is_err-clause-taken g c =
    taken-good _ _ _ _ _ _ _ (c.is_err.ensures.negation ∙ ap (λ (b : Bool). not b) c.if-is_err.false) c.carry_out-taken.ensures.carried
