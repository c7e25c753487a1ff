-- `run` meets its contract: before each turn the program stands where a run has led it, and the turns taken are counted.
use Rattle.std.proofs.Common.{◌≡◌, arith, sym, ap, ◌∙◌}
use Rattle.lent.proofs.LentLaws.{same-none, same-same}
use Rattle.listing_steps.specs.Steps.{over}
use Rattle.listing.specs.Turns.{State}
use Rattle.listing.specs.Runs.{most_turns}
use Rattle.listing.proofs.TurnLaws.{same-over}
use Rattle.listing.proofs.RunLaws.{looping-start, looping-turned, ran-loop, ran-unended}
use Rattle.listing.proofs.run.Goals as goal

pub loop-taken-init : goal.loop-taken-init
loop-taken-init c = (same-none c.args.listing.now.t, looping-start _ c.requires.1 c.requires.0)

pub returns-then-is_err-clause-ran : goal.returns-then-is_err-clause-ran
returns-then-is_err-clause-ran c =
    rw c.print_due.ensures.printed (ran-loop _ _ _ _ c.loop-taken.invariant.1 c.turn.ensures.turned (λ e. absurd (cc)) (λ e. cc))

pub returns-then-eq-clause-ran : goal.returns-then-eq-clause-ran
returns-then-eq-clause-ran c =
    let printed = c.print_due.ensures.printed in
    let end = sym (c.if-eq.ensures ∙ same-over c.print_due.new.listing.place.phase ∙ ap (λ (s : State). over s.place) printed) in
    rw printed (ran-loop _ _ _ _ c.loop-taken.invariant.1 c.turn.ensures.turned (λ e. end) (λ e. cc))

pub loop-taken-preserved : goal.loop-taken-preserved
loop-taken-preserved c =
    let initial = c.args.listing.now.t in
    let turned = c.turn.new.listing.t in
    let tables = same-same initial turned c.print_due.new.listing.t
    (same-same initial c.loop-taken.listing.t turned c.loop-taken.invariant.0 c.turn.ensures.same) c.print_due.ensures.same in
    let printed = c.print_due.ensures.printed in
    let on = sym (c.if-eq.ensures ∙ same-over c.print_due.new.listing.place.phase ∙ ap (λ (s : State). over s.place) printed) in
    (tables, rw printed (looping-turned _ _ _ c.loop-taken.invariant.1 c.loop-taken-test.true c.turn.ensures.turned on))

pub returns-clause-ran : goal.returns-clause-ran
returns-clause-ran c =
    let all : c.loop-taken.taken ≡ most_turns = omega arith in
    ran-unended _ (rw all at c.loop-taken.invariant.1)
