use Rattle.lent.specs.Lent.{lent_mut, SameTables}
use Rattle.rules.specs.Tables.{tables_with}
use Rattle.batch_index.specs.Index.{Indexed}
use Rattle.call_batch.proofs.BatchCallLaws.{After}
use Rattle.call_batch.proofs.batch_call.Given as goal

-- the tables are those that were lent, the first i events are posted, and the index is that of the tables
abbrev pub invariant-loop-i : goal.invariant-loop-i
invariant-loop-i l =
    SameTables l.initial.t l.t
    × After (tables_with l.holidays (lent_mut l.initial.t)) l.events l.initial.answers l.i (tables_with l.holidays (lent_mut l.t)) l.answers
    × Indexed (lent_mut l.t) l.index
