-- `sums_agree` meets its contract: four tests, from the left.
use Rattle.sound_sums.specs.Accounts.{sums_agree}
use Rattle.lists.proofs.TestLaws.{all_left_lem}
use lib.Dec.{eqb}
use mathlib.Core.List.{[], ◌∷◌}
use mathlib.Core.Bool.{◌||◌}
use mathlib.Core.Path.{◌∙◌}
use Rattle.sound_sums.proofs.accounts.sums_agree.Goals as goal

pub returns : goal.returns
unfolding sums_agree
returns c =
    let x = c.args.x in
    let s = c.args.s in
    all_left_lem (eqb x.returned s.returned) (eqb s.drawn s.paid ∷ (eqb s.money 0 || eqb s.debt 0) ∷ c.implies-clear.result ∷ [])
    ∙ rw c.implies-clear.ensures
