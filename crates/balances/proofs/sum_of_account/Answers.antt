-- `sum_of_account` meets its contract: the sum is that of the rows passed, and a row of another account adds nothing.
use native.Mathlib.Omega.{arith}
use mathlib.Core.Path.{◌∙◌}
use Rattle.balances.proofs.AmountLaws.{sum-none, sum-own, sum-other, sum_fits}
use Rattle.balances.proofs.sum_of_account.Goals as goal
use Rattle.balances.proofs.sum_of_account.Goals.{then-account_at-account, else-account_at-account}

pub loop-i-init : goal.loop-i-init
loop-i-init g c = λ f m. sum-none _ _ f

pub overflow_add-sum : goal.overflow_add-sum
overflow_add-sum g c =
    let m = c.requires.1 in
    omega (
      arith,
      sum_fits _ _ c.args.summable.amounts _ _ m.within _ _ _ _ c.loop-i-test.true (c.loop-i.invariant _ m) c.read_row.ensures (m.gives _ _ c.part-sum.ensures),
    )

pub loop-i-preserved : goal.loop-i-preserved
loop-i-preserved g c = λ f m.
    elim c.if-account_at-account.branch [
      | then-account_at-account w ↦
          w.sum-is
          ∙ sum-own _ _ f _ _ _ (c.loop-i.invariant f m) c.account_at.ensures _ _ w.if-account_at-account.true w.read_row.ensures
          (m.gives _ _ w.part-sum.ensures)
      | else-account_at-account w ↦
          w.sum-is ∙ sum-other _ _ f _ _ _ (c.loop-i.invariant f m) c.account_at.ensures w.if-account_at-account.false
    ]
