-- `credit_for` meets its contract: the whole amounts of the toll and its fees, and what remains of them.
use Rattle.std.proofs.Common.{rules}
use native.Mathlib.Omega.{arith}
use Rattle.rules.specs.Rows.{remaining}
use Rattle.event_decision.specs.Decision.{credit_for}
use Rattle.event_decision.proofs.credit_for.Goals as goal

pub with_fees-whole-requires : goal.with_fees-whole-requires
with_fees-whole-requires c =
    ((λ r. r.amount), record { takes = λ r. tt; gives = λ r x p. search rules; within = λ r. omega arith })

pub with_fees-requires : goal.with_fees-requires
with_fees-requires c =
    (remaining, record { takes = λ r. tt; gives = λ r x p. search rules; within = λ r. omega arith })

pub returns : goal.returns
unfolding credit_for
returns c =
    rw (
      c.row_naming.ensures,
      c.with_fees-whole.ensures (λ r. r.amount) (record { takes = λ r. tt; gives = λ r x p. search rules; within = λ r. omega arith }),
      c.with_fees.ensures remaining (record { takes = λ r. tt; gives = λ r x p. search rules; within = λ r. omega arith }),
    )
