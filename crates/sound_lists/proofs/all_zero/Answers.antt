-- `all_zero` meets its contract: every word is 0, or one is not.
use Rattle.std.proofs.Common.{rules}
use borrow.Author.Tests.{tests}
use Rattle.std.proofs.lemmas.Iterator.{cases_from_all, YieldsList-from_slice}
use Rattle.sound_lists.proofs.StandingLaws.{zeros-by}
use mathlib.Core.Path.{◌≡◌}
use mathlib.Core.Logic.{◌≢◌}
use lib.IntN.{pos}
use Rattle.sound_lists.proofs.all_zero.Goals as goal

pub returns : goal.returns
returns c =
    zeros-by c.args.words.now _
    (cases_from_all _ _ _ (λ w. w ≡ pos 0) (λ w. w ≢ pos 0) c.all.ensures.ran
    (YieldsList-from_slice c.args.words.now cc) (λ w q k. search (rules, tests)) (λ w q k. search (rules, tests)))
