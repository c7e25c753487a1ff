-- `all_agree` meets its contract: every account passes, or one does not.
use Rattle.std.proofs.Common.{rules}
use Rattle.std.proofs.lemmas.Iterator.{cases_from_all, YieldsList-from_range}
use Rattle.sound_sums.proofs.AccountLaws.{TestIs, agree-by}
use Rattle.sound_sums.specs.Accounts.{sums_at}
use mathlib.Core.Bool.{true, false}
use mathlib.Core.Path.{refl}
use native.Mathlib.Omega.{arith}
use Rattle.sound_sums.proofs.accounts.all_agree.Goals as goal

pub returns : goal.returns
returns c =
    let f = c.args.f.now in
    let sums = sums_at c.args.sums.now in
    agree-by f.term.today sums f.accounts.now f.count _
    (cases_from_all _ _ _ (TestIs f.term.today sums f.accounts.now f.count true) (TestIs f.term.today sums f.accounts.now f.count false) c.all.ensures.ran
    (YieldsList-from_range 0 f.count f.count refl (omega arith)) (λ i q k. search rules) (λ i q k. search rules))
