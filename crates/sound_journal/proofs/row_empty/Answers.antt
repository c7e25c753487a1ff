-- `row_empty` meets its contract: the row as it is read is the default one where each of its words is 0.
use mathlib.Core.Bool.{and-true}
use mathlib.Core.Path.{◌≡◌, ◌∙◌}
use Rattle.std.proofs.Common.{rules}
use Rattle.lists.specs.Tests.{all_of}
use Rattle.rules.specs.Rows.{blank}
use Rattle.plain_rows.proofs.AlikeLaws.{alike-test}
use Rattle.sound_header.specs.Clauses.{empty_row}
use Rattle.sound_journal.proofs.JournalLaws.{empty-small}
use Rattle.sound_journal.proofs.row_empty.Goals as goal

pub returns : goal.returns
unfolding empty_row all_of
returns c =
    let none : c.default.result ≡ blank = search rules in
    rw (and-true) (rw none at c.eq.ensures) ∙ alike-test empty_row empty-small _ _ c.plain_row.ensures
