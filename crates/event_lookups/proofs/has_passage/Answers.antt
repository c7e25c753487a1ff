-- `has_passage` meets its contract: each of its two tests is one of the definition's.
use mathlib.Core.Bool.{and-true}
use mathlib.Core.Path.{sym, ◌∙◌}
use borrow.Author.Tests.{eq-eqb}
use Rattle.records.specs.Encoding.{row_at}
use Rattle.rules.specs.Rows.{Row, toll}
use Rattle.event_lookups.proofs.PassageLaws.{other-passage}
use Rattle.event_lookups.proofs.has_passage.Goals as goal

pub returns-then-reference_at-passage : goal.returns-then-reference_at-passage
returns-then-reference_at-passage c =
    let r : Row = row_at c.args.rows.now.journal.now c.args.i in
    sym (other-passage c.args.passage r (λ e. c.if-reference_at-passage.true (c.reference_at.ensures ∙ e)))

pub returns : goal.returns
returns c =
    let r : Row = row_at c.args.rows.now.journal.now c.args.i in
    rw (c.kind_at.ensures, eq-eqb r.reference c.args.passage (sym c.reference_at.ensures ∙ c.if-reference_at-passage.false), and-true (toll r))
