-- The refusals 2 to 16 and 18 (document 01, "Events" and its table of answers; document 02), each a test, as one table in checking order.
use Rattle.std.specs.Prelude.{Bool, false, not, cond, ◌&&◌, ◌||◌, ℕ, ◌+◌, [], ◌∷◌, length, get_or, take, drop, leb, ltb}
use Rattle.records.specs.Numbers.{answer_malformed, answer_unknown, answer_taken, answer_closed, answer_unclassed, answer_misdated, answer_duplicate, answer_barred, answer_no_row, answer_untimely, answer_last_day, answer_full, answer_ceiling, answer_list_refused, answer_reserve, answer_successor}
use Rattle.records.specs.Codes.{method_check, event_open, event_toll, event_payment, event_topup_result, event_close_request, event_tick, event_rate_list, event_reserve, event_successor, method_card, code_yes, mode_tag, mode_plate}
use Rattle.lists.specs.Tests.{◌is◌, ◌from◌to◌, ◌implies◌, Cases, first}
use Rattle.lists.specs.Lists.{exists}
use Rattle.records.specs.Limits
use Rattle.rules.specs.Schedule.{class}
use Rattle.rules.specs.RateLists.{list_of, last_first_day, list_in_range}
use Rattle.rules.specs.Rows.{kind_toll, kind_payment, kind_refund, toll, held_toll, unsettled}
use Rattle.rules.specs.Book.{state_unused, state_pending, state_closed, Instruction, Book, account, row, settled, topup_due}
use Rattle.rules.specs.Successors.{other_used}
use Rattle.rules.specs.Events.{Change, open_account, post_toll, post_payment, return_check, hold_toll, decide, topup_result, request_close, add_list, set_reserve, set_successor}
use Rattle.rules.specs.Tick.{tick}

-- ---- the events by their kind, each ended by settlement

-- a kind that is none of these
abbrev pub no_change : Change
no_change b e = b

-- events 1 to 12; no other kind changes anything
unfoldable pub change_of : ℕ → Change
change_of k =
    get_or (no_change ∷ open_account ∷ post_toll ∷ post_payment ∷ return_check ∷ hold_toll ∷ decide ∷ topup_result ∷ request_close ∷ tick
    ∷ add_list ∷ set_reserve ∷ set_successor ∷ []) k no_change

-- the book after the event, were it accepted
unfoldable pub after : Change
after b e = settled (change_of e.kind b e)

-- ---- 2 "malformed: kind, range, length .. wrong"; "words not named are 0, else the event is malformed"

-- a test of an event's words
abbrev pub Form : Type 0
Form = Instruction → Bool

-- f and g are not named
abbrev pub zero_from-f : Form
zero_from-f e = e.f is 0 && e.g is 0

-- c to g are not named
abbrev pub zero_from-c : Form
zero_from-c e = e.c is 0 && e.d is 0 && e.e is 0 && zero_from-f e

-- b to g are not named
abbrev pub zero_from-b : Form
zero_from-b e = e.b is 0 && zero_from-c e

-- a to g are not named
abbrev pub zero_from-a : Form
zero_from-a e = e.a is 0 && zero_from-b e

-- a kind that is none of the events' is malformed
abbrev pub no_form : Form
no_form e = false

-- "1. Open: a threshold, b top-up amount, both 0 to 1,000,000 (a is 0 if b is)"
unfoldable pub open_form : Form
open_form e = leb e.a Limits.highest_topup && leb e.b Limits.highest_topup && (e.b is 0 implies e.a is 0) && zero_from-c e

-- "2. Toll: a passage number 1 to 1,000,000,000, b passage day 1 to 36,525, c axles 1 to 99, d height 0 to 999 inches, e mode (1 tag,
-- 2 plate)"
unfoldable pub toll_form : Form
toll_form e =
    e.a from 1 to Limits.highest_passage && e.b from 1 to Limits.final_day && e.c from 1 to Limits.most_axles
    && leb e.d Limits.highest_height && e.e from mode_tag to mode_plate && zero_from-f e

-- "3. Payment: a amount 1 to 1,000,000, b method 1 to 3"
unfoldable pub payment_form : Form
payment_form e = e.a from 1 to Limits.highest_payment && e.b from method_card to method_check && zero_from-c e

-- "4. Returned check: a payment row, b bank charge 0 to 99,500"; "Row words are looked up, not range-checked"
unfoldable pub return_form : Form
return_form e = leb e.b Limits.highest_charge && zero_from-c e

-- "5. Dispute: a toll row"
unfoldable pub dispute_form : Form
dispute_form e = zero_from-b e

-- "6. Decision: a toll row, b verdict", 0 or 1
unfoldable pub decision_form : Form
decision_form e = leb e.b code_yes && zero_from-c e

-- "7. Top-up result: b 1 paid, 0 declined"
unfoldable pub result_form : Form
result_form e = e.a is 0 && leb e.b code_yes && zero_from-c e

-- "8. Close request"
unfoldable pub request_form : Form
request_form e = zero_from-a e

-- "9. Day tick, account 0"; "tick: other than 0 is malformed"
unfoldable pub tick_form : Form
tick_form e = e.account is 0 && zero_from-a e

-- "A new event 10, account 0 as at a tick, .. for its first day (1 to 36,525) and six rates" (document 02, No. 1)
unfoldable pub list_form : Form
list_form e = e.account is 0 && list_in_range (list_of e)

-- "Event 11 adds or removes a reserve, with word a 1 or 0" (document 02, No. 4)
unfoldable pub reserve_form : Form
reserve_form e = leb e.a code_yes && zero_from-b e

-- "Event 12 names .. a successor account in word a" (document 02, No. 8): looked up, not range-checked
unfoldable pub successor_form : Form
successor_form e = zero_from-b e

-- the form of each kind
unfoldable pub form_of : ℕ → Form
form_of k =
    get_or (no_form ∷ open_form ∷ toll_form ∷ payment_form ∷ return_form ∷ dispute_form ∷ decision_form ∷ result_form ∷ request_form
    ∷ tick_form ∷ list_form ∷ reserve_form ∷ successor_form ∷ []) k no_form

-- the words are those of the event's kind
unfoldable pub well_formed : Form
well_formed e = form_of e.kind e

-- ---- 15, 3 to 14, 16 and 18

-- a test of an event on a book
abbrev pub Refusal : Type 0
Refusal = Book → Instruction → Bool

-- "from 1 to the table's count"
abbrev pub in_table : Refusal
in_table b e = e.account from 1 to length b.accounts

-- the state of the account that the event names
abbrev pub state_of : Book → Instruction → ℕ
state_of b e = (account b e.account).state

-- "9. Day tick, account 0"; "event 10, account 0 as at a tick": the event concerns the whole book and names no account
abbrev pub whole_book : Form
whole_book e = e.kind is event_tick || e.kind is event_rate_list

-- 15 "for a first day not after the last list's, or for a ninth list, checked after 2" (document 02, No. 1)
unfoldable pub list_refused : Refusal
list_refused b e = e.kind is event_rate_list && (leb e.a (last_first_day b.lists) || leb Limits.most_lists (length b.lists))

-- 3 "account unused, or not from 1 to the table's count"; "3 doesn't concern event 1 inside the table"
unfoldable pub unknown : Refusal
unknown b e = cond (whole_book e) false (not (in_table b e) || not (e.kind is event_open) && state_of b e is state_unused)

-- 4 "event 1 on a used account"
unfoldable pub taken : Refusal
taken b e = e.kind is event_open && not (state_of b e is state_unused)

-- 5 "events 2, 3, 7, 8 on state 3"; event 11 "on a closed account" (document 02, No. 4); a toll is asked as forwarded (Posting.receive)
unfoldable pub on_closed : Refusal
on_closed b e =
    (e.kind is event_toll || e.kind is event_payment || e.kind is event_topup_result || e.kind is event_close_request
    || e.kind is event_reserve)
    && state_of b e is state_closed

-- 18 "where the account isn't closed, or the successor is itself, unused or outside the table" (document 02, No. 8)
unfoldable pub successor_refused : Refusal
successor_refused b e =
    e.kind is event_successor && (not (state_of b e is state_closed) || not (other_used b.accounts e.account e.a))

-- 6 "one axle above 90 inches": no class applies
unfoldable pub unclassed : Refusal
unclassed b e = e.kind is event_toll && class e.c e.d is 0

-- 7 "passage after today or over 60 days back"
unfoldable pub misdated : Refusal
misdated b e = e.kind is event_toll && (ltb b.day e.b || ltb (e.b + Limits.latest_days) b.day)

-- 8 "passage number in the journal"
unfoldable pub duplicate : Refusal
duplicate b e = e.kind is event_toll && exists (λ r. toll r && r.reference is e.a) b.rows

-- 9 "check after three returned ones (000, RET-007)"
unfoldable pub barred : Refusal
barred b e = e.kind is event_payment && e.b is method_check && leb Limits.barring_returns (account b e.account).returned

-- the kind of the row that an event names, 0 for one that names none
abbrev pub named_kind : Instruction → ℕ
named_kind e = get_or (0 ∷ 0 ∷ 0 ∷ 0 ∷ kind_payment ∷ kind_toll ∷ kind_toll ∷ []) e.kind 0

-- 10 "no such row, other kind or account"
unfoldable pub no_row : Refusal
no_row b e = ltb 0 (named_kind e) && not ((row b e.a).kind is named_kind e && (row b e.a).account is e.account)

-- 11 of a kind that is never untimely
abbrev pub never : Refusal
never b e = false

-- 11 "event 4: mark not 3"
abbrev pub not_check : Refusal
not_check b e = not ((row b e.a).mark is method_check)

-- 11 "5: settled whole or dispute not 0"
abbrev pub not_disputable : Refusal
not_disputable b e = not (unsettled (row b e.a)) || not ((row b e.a).dispute is 0)

-- 11 "6: not held"
abbrev pub not_held : Refusal
not_held b e = not (held_toll (row b e.a))

-- 11 "7: not due"
abbrev pub not_due : Refusal
not_due b e = not (topup_due b e.account)

-- 11 "8: pending"
abbrev pub pending : Refusal
pending b e = state_of b e is state_pending

-- 11, event 11 "without a primary (a top-up amount above 0)" (document 02, No. 4)
abbrev pub no_primary : Refusal
no_primary b e = (account b e.account).topup is 0

-- 11 by the event's kind
unfoldable pub untimely : Refusal
untimely b e =
    get_or (never ∷ never ∷ never ∷ never ∷ not_check ∷ not_disputable ∷ not_held ∷ not_due ∷ pending ∷ never ∷ never
    ∷ no_primary ∷ never ∷ []) e.kind never b e

-- 16 "for adding one that exists or removing one that doesn't" (document 02, No. 4)
unfoldable pub reserve_refused : Refusal
reserve_refused b e = e.kind is event_reserve && (account b e.account).reserve is e.a

-- 12 "tick on day 36,525"
unfoldable pub last_day : Refusal
last_day b e = e.kind is event_tick && b.day is Limits.final_day

-- 13 "free rows fewer than the event adds"
unfoldable pub full : Refusal
full b e = ltb b.room (length (after b e).rows)

-- 14 "a refund above 10,649,600,000"
unfoldable pub ceiling : Refusal
ceiling b e = exists (λ r. r.kind is kind_refund && ltb Limits.highest_refund r.amount) (drop (length b.rows) (after b e).rows)

-- "The lowest number that applies wins" (1 is the tables': see Calls); 15 "checked after 2" (document 02, No. 1), 16 "checked after 11"
-- (No. 4), 18 "checked after 5" (No. 8)
unfoldable pub refusals : Book → Instruction → Cases
refusals b e =
    (answer_malformed, not (well_formed e))
    ∷ (answer_list_refused, list_refused b e)
    ∷ (answer_unknown, unknown b e)
    ∷ (answer_taken, taken b e)
    ∷ (answer_closed, on_closed b e)
    ∷ (answer_successor, successor_refused b e)
    ∷ (answer_unclassed, unclassed b e)
    ∷ (answer_misdated, misdated b e)
    ∷ (answer_duplicate, duplicate b e)
    ∷ (answer_barred, barred b e)
    ∷ (answer_no_row, no_row b e)
    ∷ (answer_untimely, untimely b e)
    ∷ (answer_reserve, reserve_refused b e)
    ∷ (answer_last_day, last_day b e)
    ∷ (answer_full, full b e)
    ∷ (answer_ceiling, ceiling b e)
    ∷ []

-- 0 where no refusal applies
unfoldable pub answer_number : Book → Instruction → ℕ
answer_number b e = first (refusals b e)

-- how many of the refusals are decided for every kind alike: 2, 15, 3, 4 and 5
unfoldable pub shared_count : ℕ
shared_count = 5

-- the refusals that are decided before the event's kind is looked into further
unfoldable pub shared_refusals : Book → Instruction → Cases
shared_refusals b e = take shared_count (refusals b e)

-- the others, of which each kind has its own
unfoldable pub own_refusals : Book → Instruction → Cases
own_refusals b e = drop shared_count (refusals b e)
