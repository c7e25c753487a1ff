-- What unfolds for the calls to compute, beside what does for the rules (Computing).
use Rattle.call_rules.specs.Calls

unfoldable pub computing_calls : Unit {0}
unfolding Calls.written Calls.opening_fits Calls.opening_refusals Calls.opened_book Calls.open_call Calls.event_refusals Calls.answered Calls.event_call Calls.batch_refusals Calls.batch_call Calls.question_refusals Calls.question Calls.balance_call Calls.topup_due_call Calls.debtor_call Calls.row_call
computing_calls = tt
