-- `rows::RowCounts::any_ready` meets its contract: where the answer is no, it is no at each account.
use Rattle.std.proofs.Common.{rules}
use Rattle.std.proofs.lemmas.Iterator.{cases_from_any, YieldsList-from_range}
use mathlib.Core.Bool.{true, false}
use mathlib.Core.Path.{refl}
use native.Mathlib.Omega.{arith}
use Rattle.tick_plan.proofs.CountLaws.{ClosesIs, none-by}
use Rattle.tick_plan.proofs.rows.RowCounts.any_ready.Goals as goal

pub returns : goal.returns
returns c =
    let x = c.args.self.now in
    let a = c.args.t.accounts.now in
    let n = c.count.result in
    rw c.count.ensures at (none-by x a n _
    (cases_from_any _ _ _ (ClosesIs x a true) (ClosesIs x a false) c.any.ensures.ran
    (YieldsList-from_range 0 n n refl (omega arith)) (λ i q d. search rules) (λ i q d. search rules)))
