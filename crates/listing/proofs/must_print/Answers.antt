-- `must_print` meets its contract: the phases in order.
use Rattle.std.proofs.Common.{sym, ap}
use Rattle.listing_steps.specs.Steps.{is_waiting, is_over}
use Rattle.listing.proofs.TurnLaws.{due-waits, due-over, due-taking}
use Rattle.listing.proofs.must_print.Goals as goal

pub returns-in-Waiting : goal.returns-in-Waiting
returns-in-Waiting c = sym (due-waits c.args.p c.args.out.now (ap is_waiting c.in-Waiting.is))

pub returns-in-Over : goal.returns-in-Over
returns-in-Over c = sym (due-over c.args.p c.args.out.now (ap is_over c.in-Over.is))

pub returns-in-Taking : goal.returns-in-Taking
returns-in-Taking c = rw c.len.ensures.value (due-taking c.args.p c.args.out.now c.in-Taking.is)
