-- `write_accounts` meets its contract: before each turn the lines of the accounts up to there are written.
use Rattle.std.proofs.Common.{arith}
use Rattle.records.specs.Encoding.{account_at}
use Rattle.listing_rules.specs.Texts.{account_text}
use Rattle.listing_book.proofs.ListedLaws.{listed-none, listed_more}
use Rattle.listing_book.proofs.write_accounts.Goals as goal

pub loop-i-init : goal.loop-i-init
loop-i-init g c = record { text = λ b e. listed-none (account_text b) (account_at c.args.t.accounts.now) _; short = omega arith }

pub loop-i-preserved : goal.loop-i-preserved
loop-i-preserved g c = record {
  text = λ b e.
      listed_more (account_text b) (account_at c.args.t.accounts.now) _ _ _ c.loop-i.i _ c.read_account.ensures
      (c.loop-i.invariant.text b e) (c.write_account.ensures.text b e);
  short = omega arith;
}
