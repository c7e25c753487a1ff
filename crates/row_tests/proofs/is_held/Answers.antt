-- `is_held` meets its contract.
use mathlib.Core.Path.{◌∙◌, ap}
use Rattle.rules.specs.Rows.{Row, held_toll}
use Rattle.row_tests.proofs.RowTestLaws.{held-fee, held-other}
use Rattle.row_tests.proofs.is_held.Goals as goal

pub returns-then-r-eq-KIND_FEE : goal.returns-then-r-eq-KIND_FEE
returns-then-r-eq-KIND_FEE c =
    c.held_toll.ensures ∙ ap (λ (x : Row). held_toll x) c.numbered.ensures ∙ held-fee _ _ c.if-r-eq-KIND_FEE.true

pub returns : goal.returns
returns c = c.held_toll-2.ensures ∙ held-other _ _ c.if-r-eq-KIND_FEE.false
