-- `toll_ledger_debtor` meets its contract: the question's own reply.
use Rattle.std.proofs.Common.{w64}
use borrow.Author.Rules.{sfits_of}
use mir.Facts.{to_z-of_z}
use Rattle.toll_ledger.proofs.toll_ledger_debtor.Goals as goal

pub returns : goal.returns
returns c =
    let t = c.tell_debtor.ensures in
    rw (to_z-of_z {w = w64} (sfits_of c.tell_debtor.type_inv), t.number, t.heavy, t.rows)
    (rw (to_z-of_z c.ranges.account) at c.debtor-outcome.ensures)
