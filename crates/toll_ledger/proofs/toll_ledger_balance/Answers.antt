-- `toll_ledger_balance` meets its contract: the question's own reply.
use Rattle.std.proofs.Common.{w64}
use borrow.Author.Rules.{sfits_of}
use mir.Facts.{to_z-of_z}
use Rattle.toll_ledger.proofs.toll_ledger_balance.Goals as goal

pub returns : goal.returns
returns c =
    rw (to_z-of_z {w = w64} (sfits_of c.reply.type_inv), c.reply.ensures.number, c.reply.ensures.value)
    (rw (to_z-of_z c.ranges.account) at c.balance.ensures)
