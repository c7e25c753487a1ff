-- `successor_fits` meets its contract: it is the clause.
use borrow.Author.Tests.{eq-eqb, ne_eqb}
use Rattle.rules.specs.Soundness.{successor_fits}
use Rattle.sound_accounts.proofs.successor_fits.Goals as goal

pub returns-then-x-eq0 : goal.returns-then-x-eq0
unfolding successor_fits
returns-then-x-eq0 c = rw (eq-eqb c.args.x.successor 0 c.if-x-eq0.true)

pub returns : goal.returns
unfolding successor_fits
returns c = rw (ne_eqb c.args.x.successor 0 c.if-x-eq0.false) c.other_used.ensures
