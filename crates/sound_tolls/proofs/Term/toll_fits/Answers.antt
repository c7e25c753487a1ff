-- `toll_fits` meets its contract: the first test that fails decides; a toll needs no empty reference.
use Rattle.sound_tolls.proofs.RowLaws.{toll-no-reference}
use Rattle.sound_header.specs.Clauses.{own_words}
use Rattle.lists.specs.Tests.{all_of}
use borrow.Author.Tests.{not-true, not-false}
use mathlib.Core.Bool.{and-true, and-false}
use mathlib.Core.Path.{sym, ◌∙◌}
use Rattle.sound_tolls.proofs.Term.toll_fits.Goals as goal

pub returns-then-not-stage_fits : goal.returns-then-not-stage_fits
unfolding own_words all_of
returns-then-not-stage_fits c =
    let e = sym c.stage_fits.ensures ∙ not-true _ c.if-not-stage_fits.true-raw in
    simp (e, and-false)

pub returns-then-not-toll_words_fit : goal.returns-then-not-toll_words_fit
unfolding own_words all_of
returns-then-not-toll_words_fit c =
    let e = sym c.toll_words_fit.ensures ∙ not-true _ c.if-not-toll_words_fit.true-raw in
    simp (e, and-false)

pub returns-then-not-row_day_fits : goal.returns-then-not-row_day_fits
unfolding own_words all_of
returns-then-not-row_day_fits c =
    let e = sym c.row_day_fits.ensures ∙ not-true _ c.if-not-row_day_fits.true-raw in
    simp (e, and-false)

pub returns-then-not-due_fits : goal.returns-then-not-due_fits
unfolding own_words all_of
returns-then-not-due_fits c =
    let e = sym c.due_fits.ensures ∙ not-true _ c.if-not-due_fits.true-raw in
    simp (e, and-false)

pub returns : goal.returns
unfolding own_words all_of
returns c =
    let e4 = c in
    let e3 = e4.before.before in
    let e2 = e3.before.before in
    let e1 = e2.before.before in
    let t1 = sym e1.stage_fits.ensures ∙ not-false _ e1.if-not-stage_fits.false-raw in
    let t2 = sym e2.toll_words_fit.ensures ∙ not-false _ e2.if-not-toll_words_fit.false-raw in
    let t3 = sym e3.row_day_fits.ensures ∙ not-false _ e3.if-not-row_day_fits.false-raw in
    let t4 = sym e4.due_fits.ensures ∙ not-false _ e4.if-not-due_fits.false-raw in
    let s = e1.before.before in
    let n = toll-no-reference s.args.r s.requires in
    rw (t1, t2, n, t3, t4, and-true) c.hold_fits.ensures
