-- `other_fits` meets its contract: the first test that fails decides; only a toll has a due day and a hold.
use Rattle.sound_tolls.proofs.RowLaws.{other-due, other-hold}
use Rattle.sound_header.specs.Clauses.{own_words}
use Rattle.lists.specs.Tests.{all_of}
use mathlib.Core.Bool.{and-true, and-false}
use mathlib.Core.Path.{sym, ◌∙◌}
use Rattle.sound_rows.proofs.row.other_fits.Goals as goal

pub returns-then-not-no_toll_words : goal.returns-then-not-no_toll_words
unfolding own_words all_of
returns-then-not-no_toll_words c =
    let e = sym c.no_toll_words.ensures ∙ c.if-not-no_toll_words.true in
    λ L. simp (e, and-false)

pub returns-then-not-row_day_fits : goal.returns-then-not-row_day_fits
unfolding own_words all_of
returns-then-not-row_day_fits c =
    let e = sym c.row_day_fits.ensures ∙ c.if-not-row_day_fits.true in
    λ L. simp (e, and-false)

pub returns : goal.returns
unfolding own_words all_of
returns c =
    let t1 = sym c.no_toll_words.ensures ∙ c.if-not-no_toll_words.false in
    let t2 = sym c.row_day_fits.ensures ∙ c.if-not-row_day_fits.false in
    λ L.
    let d = other-due c.args.today L c.args.r c.requires in
    let h = other-hold c.args.today L c.args.r c.requires in
    rw (t1, t2, d, h, and-true) c.method_and_reference_fit.ensures
