use Rattle.records.specs.Encoding.{rows_of}
use Rattle.rules.specs.Rows.{source, debit}
use Rattle.balances.specs.Summed.{account_sum}
use Rattle.balances.proofs.AmountLaws.{passed}
use mathlib.Core.Path.{◌≡◌}
use Rattle.balances.proofs.sums_of.Given as goal

-- both sums of the rows passed
abbrev pub invariant-loop-i : goal.invariant-loop-i
invariant-loop-i l =
    (l.sources ≡ account_sum (rows_of l.rows.journal.now l.i) l.account (passed source (λ r. r.amount)))
    × (l.debits ≡ account_sum (rows_of l.rows.journal.now l.i) l.account (passed debit (λ r. r.amount)))
