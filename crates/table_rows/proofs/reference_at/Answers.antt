-- `reference_at` meets its contract: the word is the row's field.
use Rattle.records.specs.Encoding.{row_from}
use borrow.Author.Rules.{rules}
use Rattle.table_rows.proofs.reference_at.Goals as goal

pub returns : goal.returns
unfolding row_from
returns c = search rules
