-- `lists_fit` meets its contract: every list passed stands, and `before` is the last one's first day.
use Rattle.sound_lists.proofs.StandingLaws.{rises, lists-parts, day-first, day-later}
use Rattle.table_lists.proofs.UsedLaws.{used-few}
use Rattle.rules.specs.RateLists.{list_in_range, lists_fit}
use Rattle.rules.specs.Tables.{first_list_in, later_list_at, lists_in}
use Rattle.lists.specs.Lists.{every, tabulate}
use Rattle.lists.proofs.ListLaws.{every-tabulate, every-fails}
use borrow.Author.Tests.{not-true, not-false}
use borrow.Author.Count.{below_more}
use mathlib.Core.Bool.{true, false}
use mathlib.Core.Path.{◌≡◌, sym, ◌∙◌}
use native.Mathlib.Omega.{arith}
use Rattle.sound_lists.proofs.lists_fit.Goals as goal
use Rattle.sound_lists.proofs.lists_fit.Goals.{Else-not-first_fits}

-- the first list stands, so those after it decide
rest : (e : Else-not-first_fits)
    → lists_fit (lists_in e.args.h.words.now)
    ≡ every (rises e.args.h.words.now) (tabulate (later_list_at e.args.h.words.now) e.args.used)
rest e =
    let h = e.args.h.words.now in
    let f : list_in_range (first_list_in h) ≡ true = sym e.first_fits.ensures ∙ not-false _ e.if-not-first_fits.false-raw in
    lists-parts h ∙ rw (f, e.requires)

pub returns-then-not-first_fits : goal.returns-then-not-first_fits
returns-then-not-first_fits c =
    let e : list_in_range (first_list_in c.args.h.words.now) ≡ false = sym c.first_fits.ensures ∙ not-true _ c.if-not-first_fits.true-raw in
    sym (lists-parts c.args.h.words.now ∙ rw e)

pub loop-i-init : goal.loop-i-init
loop-i-init c = (c.get-before.ensures ∙ sym (day-first c.args.h.words.now), λ k h. absurd (omega arith))

pub later_fits-requires : goal.later_fits-requires
later_fits-requires c =
    omega (arith, used-few c.args.h.words.now)

pub returns-then-not-later_fits : goal.returns-then-not-later_fits
returns-then-not-later_fits c =
    let e = (goal.at.returns-then-not-later_fits c).Else-not-first_fits in
    let h = e.args.h.words.now in
    sym
    (rest e
    ∙ every-fails (rises h) (later_list_at h) _ c.loop-i.i c.loop-i-test.true
    (rw c.loop-i.invariant.0 at (sym c.later_fits.ensures ∙ not-true _ c.if-not-later_fits.true-raw)))

pub later_day-before-requires : goal.later_day-before-requires
later_day-before-requires c =
    omega (arith, used-few c.args.h.words.now)

pub loop-i-preserved : goal.loop-i-preserved
loop-i-preserved c =
    let h = c.args.h.words.now in (
      c.later_day-before.ensures ∙ sym (day-later h c.loop-i.i (rw c.requires at c.loop-i-test.true)),
      below_more _ _ c.loop-i.invariant.1 (rw c.loop-i.invariant.0 at (sym c.later_fits.ensures ∙ not-false _ c.if-not-later_fits.false-raw)),
    )

pub returns : goal.returns
returns c =
    let e = (goal.at.returns c).Else-not-first_fits in
    let h = e.args.h.words.now in
    let n : c.loop-i.i ≡ e.args.used = omega arith in
    sym (rest e ∙ every-tabulate (rises h) (later_list_at h) _ (rw n at c.loop-i.invariant.1))
