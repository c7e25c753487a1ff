use Rattle.std.proofs.Common.{◌≡◌, ◌+◌, ◌*◌, ◌≤◌, ◌++◌, length}
use Rattle.lists.specs.Lists.{gather}
use Rattle.records.specs.Encoding.{rows_of, accounts_of}
use Rattle.rules.specs.Book.{Book}
use Rattle.listing_rules.specs.Texts.{account_text}
use Rattle.listing_rules.specs.Sizes.{most_account_bytes}
use Rattle.listing_book.proofs.write_accounts.Given as goal

abbrev pub invariant-loop-i : goal.invariant-loop-i
invariant-loop-i g l = record {
  text : (b : Book) → b.rows ≡ rows_of l.summable.rows.journal.now l.summable.rows.used → l.out ≡ l.initial.out ++ gather (account_text b) (accounts_of l.t.accounts.now l.i);
  short : length l.out ≤ length l.initial.out + l.i * most_account_bytes;
}
