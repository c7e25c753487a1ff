-- `sums_of` meets its contract: both sums are those of the rows passed, and a row of another account adds nothing.
use native.Mathlib.Omega.{arith}
use mathlib.Core.Path.{◌≡◌, ◌∙◌}
use Rattle.rules.specs.Rows.{source, debit, source_of, debit_of}
use Rattle.rules.specs.Book.{sources, debits}
use Rattle.balances.proofs.AmountLaws.{sum-none, sum-own, sum-other, sum_fits, passed, passed-le, passed-sum}
use Rattle.balances.proofs.sums_of.Goals as goal
use Rattle.balances.proofs.sums_of.Goals.{then-account_at-account, else-account_at-account}

pub loop-i-init : goal.loop-i-init
loop-i-init c = (sum-none _ _ _, sum-none _ _ _)

pub overflow_add-sources : goal.overflow_add-sources
overflow_add-sources c =
    omega (
      arith,
      sum_fits _ _ c.args.summable.amounts _ (passed source (λ r. r.amount)) (passed-le source _ (λ r. omega arith)) _ _ _ _ c.loop-i-test.true c.loop-i.invariant.0
          c.read_row-r.ensures (rw c.is_source.ensures at c.part-sources.ensures),
    )

pub overflow_add-debits : goal.overflow_add-debits
overflow_add-debits c =
    omega (
      arith,
      sum_fits _ _ c.args.summable.amounts _ (passed debit (λ r. r.amount)) (passed-le debit _ (λ r. omega arith)) _ _ _ _ c.loop-i-test.true c.loop-i.invariant.1
          c.read_row-r.ensures (rw c.is_debit.ensures at c.part-debits.ensures),
    )

pub loop-i-preserved : goal.loop-i-preserved
loop-i-preserved c =
    elim c.if-account_at-account.branch [
      | then-account_at-account w ↦ (
        w.sources-is
            ∙ sum-own _ _ _ _ _ _ c.loop-i.invariant.0 c.account_at.ensures _ _ w.if-account_at-account.true w.read_row-r.ensures
            (rw w.is_source.ensures at w.part-sources.ensures),
        w.debits-is
            ∙ sum-own _ _ _ _ _ _ c.loop-i.invariant.1 c.account_at.ensures _ _ w.if-account_at-account.true w.read_row-r.ensures
            (rw w.is_debit.ensures at w.part-debits.ensures),
      )
      | else-account_at-account w ↦ (
        w.sources-is ∙ sum-other _ _ _ _ _ _ c.loop-i.invariant.0 c.account_at.ensures w.if-account_at-account.false,
        w.debits-is ∙ sum-other _ _ _ _ _ _ c.loop-i.invariant.1 c.account_at.ensures w.if-account_at-account.false,
      )
    ]

pub returns : goal.returns
unfolding sources debits source_of debit_of
returns c =
    let e : c.loop-i.i ≡ c.args.summable.rows.used = omega arith in
    record {
      sources = rw e at (c.loop-i.invariant.0 ∙ passed-sum source (λ r. r.amount) _ _);
      debits = rw e at (c.loop-i.invariant.1 ∙ passed-sum debit (λ r. r.amount) _ _);
    }
