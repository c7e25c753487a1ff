-- `account_numbered` meets its contract: a number past the table names none; another names the account before it, counted from 0.
use Rattle.lists.proofs.ListLaws.{numbered-at, numbered-past}
use Rattle.rules.specs.Book.{unused}
use Rattle.records.specs.Encoding.{account_at}
use Rattle.std.proofs.Common.{rules}
use mathlib.Core.Path.{◌≡◌, sym, ◌∙◌}
use Rattle.table_accounts.proofs.account_numbered.Goals as goal

pub returns-then-n-count : goal.returns-then-n-count
returns-then-n-count c =
    let s = c in
    let none : c.default-then-n-count.result ≡ unused = search rules in
    none ∙ sym (numbered-past (account_at s.args.accounts.now) s.args.count s.args.n unused c.if-n-count.true)

pub returns : goal.returns
returns c =
    let s = c in
    c.read_account.ensures ∙ sym (numbered-at (account_at s.args.accounts.now) s.args.count s.args.n unused c.if-n-eq0.false c.if-n-count.false)
