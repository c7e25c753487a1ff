use lib.ListN.{drop}
use Rattle.table_rows.specs.UsedRows.{rows_in}
use Rattle.batch_index.specs.Slots.{SlotsHold, MoneysOf}
use Rattle.batch_index.proofs.slots.Slots.index_rows.Given as goal

abbrev pub invariant-loop-i : goal.invariant-loop-i
invariant-loop-i l = SlotsHold l.countable.rows.journal.now l.countable.rows.used l.i l.self.by_account × MoneysOf (drop l.i (rows_in l.countable.rows)) l.self.by_account
