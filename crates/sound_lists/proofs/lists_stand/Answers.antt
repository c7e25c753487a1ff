-- `lists_stand` meets its contract: lists that are unfit decide; else the words after the used ones do.
use Rattle.sound_lists.specs.Standing.{lists_stand}
use Rattle.sound_lists.proofs.StandingLaws.{zeros-from}
use Rattle.table_lists.proofs.UsedLaws.{used-few}
use Rattle.records.specs.Layout.{header_lists, list_width}
use Prim.Native.Nat.{◌+◌, ◌*◌}
use Rattle.rules.specs.RateLists.{lists_fit}
use Rattle.rules.specs.Tables.{lists_in}
use borrow.Author.Tests.{not-true, not-false}
use mathlib.Core.Bool.{true, false}
use mathlib.Core.Path.{◌≡◌, sym, ◌∙◌}
use native.Mathlib.Omega.{arith}
use Rattle.sound_lists.proofs.lists_stand.Goals as goal

pub returns-then-not-lists_fit : goal.returns-then-not-lists_fit
unfolding lists_stand
returns-then-not-lists_fit c =
    let e : lists_fit (lists_in c.args.h.words.now) ≡ false = sym c.lists_fit.ensures ∙ not-true _ c.if-not-lists_fit.true-raw in
    rw e

pub overflow_mul-used : goal.overflow_mul-used
overflow_mul-used c = omega (arith, c.lists_used-used.ensures, used-few c.args.h.words.now)

pub overflow_add-used : goal.overflow_add-used
overflow_add-used c = omega (arith, c.lists_used-used.ensures, used-few c.args.h.words.now)

pub offset_bounds-h-used : goal.offset_bounds-h-used
offset_bounds-h-used c = omega (arith, c.lists_used-used.ensures, used-few c.args.h.words.now)

pub slice_bounds-all_zero-count : goal.slice_bounds-all_zero-count
slice_bounds-all_zero-count c = omega (arith, c.args.h.wide, c.lists_used-used.ensures, used-few c.args.h.words.now)

pub slice_bounds-all_zero-start : goal.slice_bounds-all_zero-start
slice_bounds-all_zero-start c = omega (arith, c.args.h.wide, c.lists_used-used.ensures, used-few c.args.h.words.now)

pub returns : goal.returns
unfolding lists_stand
returns c =
    let e : lists_fit (lists_in c.args.h.words.now) ≡ true = sym c.lists_fit.ensures ∙ not-false _ c.if-not-lists_fit.false-raw in
    rw (e, ← c.lists_used-used.ensures) (c.all_zero.ensures ∙ zeros-from c.args.h.words.now (header_lists + c.lists_used-used.result * list_width))
