-- `debtor::judge_debtor` meets its contract: the first row by which the limit is exceeded decides, and where there is none, all rows do.
use native.Mathlib.Omega.{arith}
use Prim.Native.Nat.{ℕ}
use mathlib.Core.Path.{◌≡◌}
use Rattle.balances.proofs.DebtorLaws.{counted-none, counted-more, counts-small, heavy-found, least-found, heavy-none, least-none}
use Rattle.balances.proofs.debtor.judge_debtor.Goals as goal

pub loop-i-init : goal.loop-i-init
loop-i-init c = counted-none _ _ _

pub overflow_add-debt : goal.overflow_add-debt
overflow_add-debt c =
    omega (arith, c.loop-i.invariant.within, counts-small _ _ _ c.args.summable.amounts _ _ c.loop-i-test.true c.counted_debt-debt.ensures)

pub returns-then-debt-gt-HEAVY_DEBT-clause-heavy : goal.returns-then-debt-gt-HEAVY_DEBT-clause-heavy
returns-then-debt-gt-HEAVY_DEBT-clause-heavy c =
    heavy-found _ _ _ _ _ _ c.loop-i.invariant c.loop-i-test.true c.counted_debt-debt.ensures c.if-debt-gt-HEAVY_DEBT.true

pub returns-then-debt-gt-HEAVY_DEBT-clause-rows : goal.returns-then-debt-gt-HEAVY_DEBT-clause-rows
returns-then-debt-gt-HEAVY_DEBT-clause-rows c =
    least-found _ _ _ _ _ _ c.loop-i.invariant c.loop-i-test.true c.counted_debt-debt.ensures c.if-debt-gt-HEAVY_DEBT.true

pub loop-i-preserved : goal.loop-i-preserved
loop-i-preserved c =
    counted-more _ _ _ _ _ _ c.loop-i.invariant c.loop-i-test.true c.counted_debt-debt.ensures (omega (arith, c.if-debt-gt-HEAVY_DEBT.false))

pub returns-clause-heavy : goal.returns-clause-heavy
returns-clause-heavy c =
    let z : c.loop-i.i ≡ c.args.summable.rows.used = omega (arith, c.loop-i.auto.i-end, c.loop-i-test.false) in
    heavy-none _ _ _ _ (rw z at c.loop-i.invariant)

pub returns-clause-rows : goal.returns-clause-rows
returns-clause-rows c =
    let z : c.loop-i.i ≡ c.args.summable.rows.used = omega (arith, c.loop-i.auto.i-end, c.loop-i-test.false) in
    least-none _ _ _ _ (rw z at c.loop-i.invariant)
