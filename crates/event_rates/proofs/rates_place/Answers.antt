-- `rates_place` meets its contract: the first list's rates stand among the words of document 01, a later one's after its first day.
use Rattle.event_rates.proofs.RateLaws.{first-rates, later-rates}
use Rattle.event_rates.proofs.rates_place.Goals as goal

pub returns-then-n-eq0 : goal.returns-then-n-eq0
returns-then-n-eq0 c = rw c.if-n-eq0.true first-rates

pub returns : goal.returns
returns c = later-rates _ c.if-n-eq0.false c.requires
