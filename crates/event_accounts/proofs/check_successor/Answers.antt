-- `check_successor` meets its contract: the table's one case.
use native.Mathlib.Omega.{arith}
use mathlib.Core.Bool.{true, false}
use Rattle.lists.specs.Tests.{first}
use Rattle.rules.specs.Tables.{book_of}
use Rattle.event_accounts.proofs.SuccessorLaws.{successor-by}
use Rattle.event_accounts.proofs.check_successor.Goals as goal

pub other_used-requires : goal.other_used-requires
other_used-requires c = omega (arith, c.count.ensures)

pub returns-then-not-nameable : goal.returns-then-not-nameable
unfolding first book_of
returns-then-not-nameable c =
    successor-by _ _ false (rw (← c.requires, ← c.count.ensures, ← c.other_used.ensures) c.if-not-nameable.true)

pub returns : goal.returns
unfolding first book_of
returns c = successor-by _ _ true (rw (← c.requires, ← c.count.ensures, ← c.other_used.ensures) c.if-not-nameable.false)
