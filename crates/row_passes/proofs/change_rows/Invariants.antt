use Rattle.rules.specs.Rows.{Row}
use Rattle.tables.specs.Changes.{RowsMapped}
use Rattle.row_passes.specs.Passes.{MapsRows}
use Rattle.row_passes.proofs.change_rows.Given as goal

abbrev pub invariant-loop-i : goal.invariant-loop-i
invariant-loop-i g l = (f : Row → Row) → MapsRows g.F.Fn l.step f l.initial.journal l.used → RowsMapped f l.initial.journal l.journal l.i
