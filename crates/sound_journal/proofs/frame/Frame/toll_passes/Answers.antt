-- `toll_passes` meets its contract: the first test that fails decides; a toll refers to no row.
use Rattle.sound_journal.proofs.JournalLaws.{toll-names-none}
use Rattle.sound_header.specs.Clauses.{row_passes}
use Rattle.lists.specs.Tests.{all_of}
use mathlib.Core.Bool.{and-true}
use mathlib.Core.Path.{sym, ◌∙◌}
use Rattle.sound_journal.proofs.frame.Frame.toll_passes.Goals as goal

pub returns-then-not-toll_alone : goal.returns-then-not-toll_alone
unfolding row_passes all_of
returns-then-not-toll_alone c =
    let e = sym c.toll_alone.ensures ∙ c.if-not-toll_alone.true in
    λ rows n. rw e

pub returns : goal.returns
unfolding row_passes all_of
returns c =
    let e = sym c.toll_alone.ensures ∙ c.if-not-toll_alone.false in
    λ rows n. rw (e, toll-names-none rows n c.args.r c.requires, and-true) c.account_used.ensures
