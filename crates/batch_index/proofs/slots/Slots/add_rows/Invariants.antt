use Rattle.table_rows.specs.UsedRows.{rows_in}
use Rattle.batch_index.specs.Slots.{SlotsHold, MoneysUpTo}
use Rattle.batch_index.proofs.slots.Slots.add_rows.Given as goal

abbrev pub invariant-loop-i : goal.invariant-loop-i
invariant-loop-i l = SlotsHold l.countable.rows.journal.now l.i 0 l.self.by_account × MoneysUpTo (rows_in l.countable.rows) l.i l.self.by_account
