-- `turn` meets its contract: it reads where it waits, else it takes a step.
use Rattle.std.proofs.Common.{sym, ◌∙◌}
use mathlib.Core.Bool.{true≢false}
use Rattle.listing.proofs.TurnLaws.{same-waiting}
use Rattle.listing.proofs.turn.Goals as goal

pub returns-then-eq-clause-turned : goal.returns-then-eq-clause-turned
returns-then-eq-clause-turned c =
    let yes = sym (c.if-eq.ensures ∙ same-waiting c.args.listing.now.place.phase) in
    record { steps = λ e. absurd (true≢false (sym yes ∙ e)); reads = λ e. c.read_on.ensures.reads }

pub returns-clause-turned : goal.returns-clause-turned
returns-clause-turned c =
    let no = sym (c.if-eq.ensures ∙ same-waiting c.args.listing.now.place.phase) in
    record { steps = λ e. c.take_next.ensures.stepped; reads = λ e. absurd (true≢false (sym e ∙ no)) }
