-- `other_used` meets its contract: account n itself is none, and another is where it is used.
use Rattle.rules.specs.Successors.{other_used}
use borrow.Author.Tests.{eq-eqb, ne_eqb}
use Rattle.table_accounts.proofs.other_used.Goals as goal

pub returns-then-s-n : goal.returns-then-s-n
unfolding other_used
returns-then-s-n c = rw (eq-eqb c.args.s c.args.n c.if-s-n.true)

pub returns : goal.returns
unfolding other_used
returns c = rw (ne_eqb c.args.s c.args.n c.if-s-n.false, c.account_numbered.ensures)
