-- `other_alone` meets its contract: the first test that fails decides.
use Rattle.sound_header.specs.Clauses.{row_alone}
use Rattle.lists.specs.Tests.{all_of}
use mathlib.Core.Bool.{and-true, and-false}
use mathlib.Core.Path.{sym, ◌∙◌}
use Rattle.sound_rows.proofs.row.other_alone.Goals as goal

pub returns-then-not-kind_fits : goal.returns-then-not-kind_fits
unfolding row_alone all_of
returns-then-not-kind_fits c =
    let e = sym c.kind_fits.ensures ∙ c.if-not-kind_fits.true in
    λ L. simp e

pub returns-then-not-amount_fits : goal.returns-then-not-amount_fits
unfolding row_alone all_of
returns-then-not-amount_fits c =
    let e = sym c.amount_fits.ensures ∙ c.if-not-amount_fits.true in
    λ L. simp (e, and-false)

pub returns-then-not-settled_fits : goal.returns-then-not-settled_fits
unfolding row_alone all_of
returns-then-not-settled_fits c =
    let e = sym c.settled_fits.ensures ∙ c.if-not-settled_fits.true in
    λ L. simp (e, and-false)

pub returns : goal.returns
unfolding row_alone all_of
returns c =
    let t1 = sym c.kind_fits.ensures ∙ c.if-not-kind_fits.false in
    let t2 = sym c.amount_fits.ensures ∙ c.if-not-amount_fits.false in
    let t3 = sym c.settled_fits.ensures ∙ c.if-not-settled_fits.false in
    λ L. rw (t1, t2, t3, and-true) (c.other_fits.ensures L)
