-- `rate_of` meets its contract: the rate stands where the list in force has it.
use native.Mathlib.Omega.{arith}
use mathlib.Core.Path.{◌∙◌}
use Rattle.table_lists.proofs.UsedLaws.{used-few}
use Rattle.event_rates.proofs.RateLaws.{rate-on, class_number-from_1}
use Rattle.event_rates.proofs.rate_of.Goals as goal

pub rates_place-first-requires : goal.rates_place-first-requires
rates_place-first-requires c = omega (arith, c.list_on.ensures.within, used-few c.args.header.now)

pub returns : goal.returns
returns c =
    let k = class_number-from_1 c.args.class in
    c.get.ensures
    ∙ rw c.from-class.ensures
    (rate-on _ c.args.day _ _ _ _ c.list_on.ensures c.rates_place-first.ensures k.0 k.1 c.requires.1 c.requires.2)
