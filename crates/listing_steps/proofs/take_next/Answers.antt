-- `take_next` meets its contract: a whole line is taken, else the bytes are those of an unended one.
use Rattle.std.proofs.Common.{sym}
use Rattle.listing_steps.proofs.StepLaws.{step-awaits, step_line}
use Rattle.listing_steps.proofs.take_next.Goals as goal

pub returns-in_default-clause-stepped : goal.returns-in_default-clause-stepped
returns-in_default-clause-stepped g c =
    step-awaits _ _ _ _ _ c.requires _ _ (sym c.in_default.ensures.value) c.unended_line.ensures

pub returns-clause-stepped : goal.returns-clause-stepped
returns-clause-stepped g c =
    let e = c.in-Some.ensures in
    step_line _ _ _ _ _ c.requires _ _ _ _ e.value e.within c.take_line-taken.ensures.taken _
    c.phase_after.ensures.over c.phase_after.ensures.goes
