use Rattle.records.specs.Limits.{most_rows}
use Rattle.sound_passages.specs.Trees.{TreesOf}
use Rattle.batch_index.proofs.index_passages.Given as goal

abbrev pub invariant-loop-i : goal.invariant-loop-i
invariant-loop-i l = TreesOf most_rows l.rows.journal.now l.cells l.i
