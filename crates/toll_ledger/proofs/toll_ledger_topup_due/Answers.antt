-- `toll_ledger_topup_due` meets its contract: the question's own reply, yes and no as 1 and 0.
use Rattle.std.proofs.Common.{rules, w64}
use borrow.Author.Rules.{sfits_of}
use mir.Facts.{to_z-of_z}
use mathlib.Core.Path.{◌≡◌}
use Rattle.records.specs.Outcomes.{number_by}
use Rattle.call_questions.specs.Values.{value_of, flag_of}
use Rattle.toll_ledger.proofs.toll_ledger_topup_due.Goals as goal

pub returns : goal.returns
returns c =
    let n : number_by c.map.result ≡ number_by c.topup_due-due.result = search rules in
    let v : value_of c.map.result ≡ flag_of c.topup_due-due.result = search rules in
    rw (to_z-of_z {w = w64} (sfits_of c.reply.type_inv), c.reply.ensures.number, c.reply.ensures.value, n, v)
    (rw (to_z-of_z c.ranges.account) at c.topup_due-due.ensures)
