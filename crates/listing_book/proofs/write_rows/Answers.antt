-- `write_rows` meets its contract: before each turn the lines of the rows up to there are written.
use Rattle.std.proofs.Common.{arith, rules}
use Rattle.records.specs.Encoding.{row_at}
use Rattle.listing_rules.specs.Texts.{row_text}
use Rattle.listing_book.proofs.ListedLaws.{listed-none, listed_more, row-dated}
use Rattle.listing_book.proofs.write_rows.Goals as goal

pub loop-i-init : goal.loop-i-init
loop-i-init g c = record { text = listed-none row_text (row_at c.args.rows.now.journal.now) _; short = omega arith }

pub write_row-requires : goal.write_row-requires
write_row-requires g c =
    let d = row-dated _ _ c.loop-i.i _ c.requires.1 c.loop-i-test.true c.read_row.ensures in
    (search rules, (omega arith, d.0, d.1))

pub loop-i-preserved : goal.loop-i-preserved
loop-i-preserved g c = record {
  text = listed_more row_text (row_at c.args.rows.now.journal.now) _ _ _ c.loop-i.i _ c.read_row.ensures c.loop-i.invariant.text c.write_row.ensures.text;
  short = omega arith;
}
