use Rattle.balances.proofs.DebtorLaws.{Counted}
use Rattle.balances.proofs.debtor.judge_debtor.Given as goal

abbrev pub invariant-loop-i : goal.invariant-loop-i
invariant-loop-i l = Counted l.rows.journal.now l.rows.used l.account l.debt l.i
