-- `account_used` meets its contract: a number without a mark is past the accounts, and a mark tells the rest.
use Rattle.lists.proofs.ListLaws.{numbered-past}
use Rattle.records.specs.Encoding.{account_at}
use Rattle.rules.specs.Book.{unused}
use Rattle.rules.specs.Soundness.{account_used}
use native.Mathlib.Omega.{arith}
use Rattle.sound_journal.proofs.frame.Frame.account_used.Goals as goal

pub returns-then-r : goal.returns-then-r
unfolding account_used
returns-then-r c =
    let f = c.args.self.now in
    let few = f.bounds.fewer in
    rw (numbered-past (account_at f.accounts.now) f.count c.args.r.account unused (omega arith))

pub returns : goal.returns
unfolding account_used
returns c = c.args.self.now.marked.each c.args.r.account (omega arith)
