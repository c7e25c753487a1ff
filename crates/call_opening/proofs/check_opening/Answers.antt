-- `check_opening` meets its contract: each way through the tests is a case of the table.
use mathlib.Core.Path.{◌≡◌, refl, sym, ◌∙◌}
use mathlib.Core.Bool.{true, false}
use borrow.Author.Tests.{not-true, not-false}
use Rattle.lists.specs.Tests.{first}
use Rattle.rules.specs.Tables.{lengths_fit}
use Rattle.lent.specs.Lent.{lent_mut}
use Rattle.call_opening.proofs.OpenedLaws.{refusals-by}
use Rattle.call_opening.proofs.check_opening.Goals as goal
use Rattle.call_opening.proofs.check_opening.Goals.{Else-not-lengths_fit}

-- the lengths, once tested
fit : (e : Else-not-lengths_fit) → lengths_fit (lent_mut e.args.t.now) ≡ true
fit e = sym (rw e.read.ensures.tables at e.lengths_fit.ensures) ∙ not-false _ e.if-not-lengths_fit.false-raw

pub returns-then-not-lengths_fit : goal.returns-then-not-lengths_fit
unfolding first
returns-then-not-lengths_fit c = refusals-by _ _ _ false _ _ (sym (rw c.read.ensures.tables at c.lengths_fit.ensures) ∙ not-true _ c.if-not-lengths_fit.true-raw) refl refl

pub returns-then-not-opening_fits : goal.returns-then-not-opening_fits
unfolding first
returns-then-not-opening_fits c =
    let l = fit (goal.at.returns-then-not-opening_fits c).Else-not-lengths_fit in
    refusals-by _ _ _ true false _ l (sym c.opening_fits.ensures ∙ not-true _ c.if-not-opening_fits.true-raw) refl

pub returns-then-not-holidays_fit : goal.returns-then-not-holidays_fit
unfolding first
returns-then-not-holidays_fit c =
    let l = fit (goal.at.returns-then-not-holidays_fit c).Else-not-lengths_fit in
    refusals-by _ _ _ true true false l (sym c.opening_fits.ensures ∙ not-false _ c.if-not-opening_fits.false-raw) (sym c.holidays_fit.ensures ∙ not-true _ c.if-not-holidays_fit.true-raw)

pub returns : goal.returns
unfolding first
returns c =
    let l = fit (goal.at.returns c).Else-not-lengths_fit in
    refusals-by _ _ _ true true true l (sym c.opening_fits.ensures ∙ not-false _ c.if-not-opening_fits.false-raw) (sym c.holidays_fit.ensures ∙ not-false _ c.if-not-holidays_fit.false-raw)
