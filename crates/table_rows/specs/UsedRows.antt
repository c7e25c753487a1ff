-- The used rows of a journal that is lent to be read.
use Rattle.std.specs.Prelude.{List}
use Rattle.records.specs.Encoding.{rows_of}
use Rattle.rules.specs.Rows.{Row}
use Rattle.table_rows.specs.declared.Rows.{Rows}

-- as values
abbrev pub rows_in : Rows → List Row
rows_in r = rows_of r.journal.now r.used
