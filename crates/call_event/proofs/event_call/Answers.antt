-- `event_call` meets its contract: the answer is written where there is room for it.
use mathlib.Core.Path.{◌≡◌}
use Rattle.std.proofs.Common.{rules}
use Rattle.records.specs.Outcomes.{number_by, answer_of}
use Rattle.call_event.proofs.EventCallLaws.{call-unwritten, call-written}
use Rattle.call_event.proofs.event_call.Goals as goal

pub returns-then-answer-lt-ANSWER_WIDTH-clause-gives : goal.returns-then-answer-lt-ANSWER_WIDTH-clause-gives
returns-then-answer-lt-ANSWER_WIDTH-clause-gives c =
    let n : number_by c.map.result ≡ (answer_of c.post_call-outcome.result).number = search rules in
    rw n (call-unwritten _ _ _ _ _ c.post_call-outcome.ensures.answers c.if-answer-lt-ANSWER_WIDTH.true)

pub returns-clause-gives : goal.returns-clause-gives
returns-clause-gives c =
    let n : number_by c.map-2.result ≡ (answer_of c.post_call-outcome.result).number = search rules in
    rw (c.write_answer.ensures, c.from.ensures, n) (call-written _ _ _ _ _ c.post_call-outcome.ensures.answers c.if-answer-lt-ANSWER_WIDTH.false)
