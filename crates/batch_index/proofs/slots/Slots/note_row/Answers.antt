-- `slots::Slots::note_row` meets its contract: a row with nothing left leaves the slots, another is first of its side, a source is money.
use mathlib.Core.Path.{sym, ◌∙◌}
use Rattle.batch_index.proofs.SlotLaws.{note-closed, note-debit, note-source}
use Rattle.batch_index.proofs.slots.Slots.note_row.Goals as goal

pub returns-then-left-eq0 : goal.returns-then-left-eq0
returns-then-left-eq0 c =
    note-closed _ _ _ _ c.requires.1 c.requires.2 c.args.countable.now.countable c.requires.0 _ c.read_row-r.ensures _ c.remaining_of-left.ensures
    c.if-left-eq0.true

pub returns-then-is_source : goal.returns-then-is_source
returns-then-is_source c =
    note-source _ _ _ _ c.requires.1 c.requires.2 c.args.countable.now.countable c.requires.0 _ c.read_row-r.ensures
    (sym c.is_source.ensures ∙ c.if-is_source.true) _ c.remaining_of-left.ensures

pub returns-else-is_source : goal.returns-else-is_source
returns-else-is_source c =
    note-debit _ _ _ _ c.requires.1 c.requires.2 c.args.countable.now.countable c.requires.0 _ c.read_row-r.ensures
    (sym c.is_source.ensures ∙ c.if-is_source.false)
