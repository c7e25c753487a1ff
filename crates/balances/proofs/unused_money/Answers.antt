-- `unused_money` meets its contract: what remains of the account's rows that are sources.
use native.Mathlib.Omega.{arith}
use mathlib.Core.Path.{◌∙◌}
use Rattle.std.proofs.Common.{rules}
use Rattle.rules.specs.Rows.{source, source_of, remaining}
use Rattle.rules.specs.Settlement.{money}
use Rattle.balances.proofs.AmountLaws.{passed, passed-le, passed-sum}
use Rattle.balances.proofs.unused_money.Goals as goal

pub sum_of_account-requires : goal.sum_of_account-requires
sum_of_account-requires c =
    (passed source remaining, record { takes = λ r. tt; gives = λ r x p. search rules; within = passed-le source remaining (λ r. omega arith) })

pub returns : goal.returns
unfolding money source_of
returns c =
    c.sum_of_account.ensures (passed source remaining)
    (record { takes = λ r. tt; gives = λ r x p. search rules; within = passed-le source remaining (λ r. omega arith) })
    ∙ passed-sum source remaining _ _
