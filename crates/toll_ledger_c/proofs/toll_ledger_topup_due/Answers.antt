-- `toll_ledger_topup_due` meets its contract: that of the call of the same name.
use Rattle.std.proofs.Common.{w64}
use borrow.Author.Rules.{sfits_of}
use mir.Facts.{to_z-of_z}
use Rattle.toll_ledger_c.proofs.toll_ledger_topup_due.Goals as goal

pub returns : goal.returns
returns c =
    rw (to_z-of_z {w = w64} (sfits_of c.toll_ledger_topup_due.type_inv))
    (rw (to_z-of_z c.ranges.account) at c.toll_ledger_topup_due.ensures)
