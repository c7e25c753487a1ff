-- `other_passes` meets its contract: the first test that fails decides.
use Rattle.sound_header.specs.Clauses.{row_passes}
use Rattle.lists.specs.Tests.{all_of}
use mathlib.Core.Bool.{and-true, and-false}
use mathlib.Core.Path.{sym, ◌∙◌}
use Rattle.sound_journal.proofs.frame.Frame.other_passes.Goals as goal

pub returns-then-not-other_alone : goal.returns-then-not-other_alone
unfolding row_passes all_of
returns-then-not-other_alone c =
    let e = sym (c.other_alone.ensures c.args.self.now.term.stage) ∙ c.if-not-other_alone.true in
    rw e

pub returns-then-not-account_used : goal.returns-then-not-account_used
unfolding row_passes all_of
returns-then-not-account_used c =
    let e = sym c.account_used.ensures ∙ c.if-not-account_used.true in
    rw (e, and-false)

pub returns : goal.returns
unfolding row_passes all_of
returns c =
    let t1 = sym (c.other_alone.ensures c.args.self.now.term.stage) ∙ c.if-not-other_alone.false in
    let t2 = sym c.account_used.ensures ∙ c.if-not-account_used.false in
    rw (t1, t2, and-true) c.reference_fits.ensures
