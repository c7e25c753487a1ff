-- `write_row` meets its contract: ten words put from the row's first are that row, and no other row has one of them.
use native.Mathlib.Omega.{arith}
use Rattle.records.specs.Encoding.{row_words}
use Rattle.records.proofs.FieldLaws.{storable-row}
use Rattle.tables.proofs.ChangeLaws.{row-changed}
use Rattle.table_rows.proofs.write_row.Goals as goal

pub put_words-requires : goal.put_words-requires
put_words-requires c = (omega arith, (c.requires.0, storable-row c.args.r c.requires.1))

pub returns : goal.returns
unfolding row_words
returns c = rw c.put_words.ensures (row-changed c.args.journal.now c.args.i c.args.r c.requires.0)
