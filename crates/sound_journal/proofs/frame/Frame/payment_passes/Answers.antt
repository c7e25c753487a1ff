-- `payment_passes` meets its contract: the first test that fails decides; a payment refers to no row.
use Rattle.sound_journal.proofs.JournalLaws.{payment-names-none}
use Rattle.sound_header.specs.Clauses.{row_passes}
use Rattle.lists.specs.Tests.{all_of}
use mathlib.Core.Bool.{and-true}
use mathlib.Core.Path.{sym, ◌∙◌}
use Rattle.sound_journal.proofs.frame.Frame.payment_passes.Goals as goal

pub returns-then-not-other_alone : goal.returns-then-not-other_alone
unfolding row_passes all_of
returns-then-not-other_alone c =
    let e = sym (c.other_alone.ensures c.args.self.now.term.stage) ∙ c.if-not-other_alone.true in
    λ rows n. rw e

pub returns : goal.returns
unfolding row_passes all_of
returns c =
    let e = sym (c.other_alone.ensures c.args.self.now.term.stage) ∙ c.if-not-other_alone.false in
    λ rows n. rw (e, payment-names-none rows n c.args.r c.requires, and-true) c.account_used.ensures
