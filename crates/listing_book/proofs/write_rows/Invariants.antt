use Rattle.std.proofs.Common.{◌≡◌, ◌+◌, ◌*◌, ◌≤◌, ◌++◌, length}
use Rattle.lists.specs.Lists.{gather}
use Rattle.records.specs.Encoding.{rows_of}
use Rattle.listing_rules.specs.Texts.{row_text}
use Rattle.listing_rules.specs.Sizes.{most_row_bytes}
use Rattle.listing_book.proofs.write_rows.Given as goal

abbrev pub invariant-loop-i : goal.invariant-loop-i
invariant-loop-i g l = record {
  text : l.out ≡ l.initial.out ++ gather row_text (rows_of l.rows.journal.now l.i);
  short : length l.out ≤ length l.initial.out + l.i * most_row_bytes;
}
