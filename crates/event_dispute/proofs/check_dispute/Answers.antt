-- `check_dispute` meets its contract: each way through the tests is a case of the table.
use mathlib.Core.Path.{refl, sym, ◌∙◌}
use mathlib.Core.Bool.{true, false}
use Rattle.lists.specs.Tests.{first}
use Rattle.posting.proofs.BookLaws.{row-read-in, rows-lie}
use Rattle.event_dispute.proofs.DisputeLaws.{answer-by}
use Rattle.event_dispute.proofs.check_dispute.Goals as goal

pub rows-requires : goal.rows-requires
rows-requires c = rows-lie _ c.requires.0

pub returns-then-not-is_of : goal.returns-then-not-is_of
unfolding first
returns-then-not-is_of c =
    let found = row-read-in _ c.requires.0 _ _ c.rows.ensures.journal c.rows.ensures.used _ _ c.numbered-r.ensures in
    answer-by _ c.requires.0 _ c.requires.1 c.requires.2 false _ (rw (← found) (sym c.is_of.ensures ∙ c.if-not-is_of.true)) refl

pub returns-then-r : goal.returns-then-r
unfolding first
returns-then-r c =
    let found = row-read-in _ c.requires.0 _ _ c.rows.ensures.journal c.rows.ensures.used _ _ c.numbered-r.ensures in
    answer-by _ c.requires.0 _ c.requires.1 c.requires.2 true true (rw (← found) (sym c.is_of.ensures ∙ c.if-not-is_of.false)) (rw (← found) c.if-r.true)

pub returns : goal.returns
unfolding first
returns c =
    let found = row-read-in _ c.requires.0 _ _ c.rows.ensures.journal c.rows.ensures.used _ _ c.numbered-r.ensures in
    answer-by _ c.requires.0 _ c.requires.1 c.requires.2 true false (rw (← found) (sym c.is_of.ensures ∙ c.if-not-is_of.false)) (rw (← found) c.if-r.false)
