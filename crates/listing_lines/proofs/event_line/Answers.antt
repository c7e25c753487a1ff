-- `event_line` meets its contract: the event is posted and its answer printed, or the line is bad.
use native.Mathlib.Omega.{arith}
use mathlib.Core.Path.{refl, ◌∙◌}
use Rattle.listing_lines.proofs.TakenLaws.{bad-verdict, carried-bad, judged-good, carried-good, event-good, posted-text, posted-book, posted-sound}
use Rattle.listing_lines.proofs.event_line.Goals as goal

pub returns-in_err-values-clause-carried : goal.returns-in_err-values-clause-carried
returns-in_err-values-clause-carried g c =
    let line = c.args.line.now in
    let unread = rw c.in_err-values.ensures.ok_part at c.read_numbers.ensures in
    carried-bad c.args.n _ _ line _ c.args.out.now (event-good line c.args.n c.requires.1 ∙ unread) (bad-verdict _ c.from_residual.ensures.0)

pub post_event-outcome-requires : goal.post_event-outcome-requires
post_event-outcome-requires g c = c.requires.3.sound (omega arith)

pub returns-clause-carried : goal.returns-clause-carried
returns-clause-carried g c =
    let a = c.args in
    let line = a.line.now in
    let three = c.requires.1 in
    let sized = c.requires.3.sized in
    let sound = c.requires.3.sound (omega (arith, three)) in
    let read = rw c.in_ok-values.ensures.ok_part at c.read_numbers.ensures in
    let e = c.read_event.ensures in
    let p = rw (← c.from.ensures) at c.post_event-outcome.ensures.posts in
    let w = c.write_answer.ensures in
    let good = event-good line a.n three ∙ read.0 in
    carried-good a.n _ _ line _ a.out.now _ good
    (judged-good a.n _ _ line _ good refl (posted-book a.n _ _ line _ _ _ three sound read.1 e p) (record {
      sized = record { header = omega (arith, sized.header); accounts = omega (arith, sized.accounts); journal = omega (arith, sized.journal); holidays = refl };
      sound = λ q. posted-sound a.n _ _ line _ _ _ three sound read.1 e p;
    }))
    (rw (← posted-text a.n _ _ line _ _ _ three sound read.1 e p) w.text)
    w.short
