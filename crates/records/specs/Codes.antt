-- The numbers that documents 01 and 02 give to kinds of rows and events, states of accounts, methods of payment, disputes and modes, under
-- the names of the C header.
use Rattle.std.specs.Prelude.{ℕ}

-- "Kinds: 0 empty, 1 toll, 2 fee, 3 reversal, 4 payment, 5 credit, 6 refund"
abbrev pub kind_toll : ℕ
kind_toll = 1

abbrev pub kind_fee : ℕ
kind_fee = 2

abbrev pub kind_reversal : ℕ
kind_reversal = 3

abbrev pub kind_payment : ℕ
kind_payment = 4

abbrev pub kind_credit : ℕ
kind_credit = 5

abbrev pub kind_refund : ℕ
kind_refund = 6

-- "state (0 unused, 1 open, 2 pending to close, 3 closed)"
abbrev pub state_unused : ℕ
state_unused = 0

abbrev pub state_open : ℕ
state_open = 1

abbrev pub state_pending : ℕ
state_pending = 2

abbrev pub state_closed : ℕ
state_closed = 3

-- "a payment's method (1 card, 2 cash, 3 check, 4 check returned)"
abbrev pub method_card : ℕ
method_card = 1

abbrev pub method_cash : ℕ
method_cash = 2

abbrev pub method_check : ℕ
method_check = 3

abbrev pub method_check_returned : ℕ
method_check_returned = 4

-- "Mark: a toll's stage 0 to 4"
abbrev pub last_stage : ℕ
last_stage = 4

-- "Dispute, tolls only: 0 never, 1 held, 2 ended, 3 upheld"
abbrev pub dispute_never : ℕ
dispute_never = 0

abbrev pub dispute_held : ℕ
dispute_held = 1

abbrev pub dispute_ended : ℕ
dispute_ended = 2

abbrev pub dispute_upheld : ℕ
dispute_upheld = 3

-- the verdict of a decision, the result of a top-up, the reserve of an account: 1 for the motorist, for paid, for one that is there
abbrev pub code_yes : ℕ
code_yes = 1

-- "e mode (1 tag, 2 plate)"
abbrev pub mode_tag : ℕ
mode_tag = 1

abbrev pub mode_plate : ℕ
mode_plate = 2

-- the kinds of events: "1. Open" to "9. Day tick" (document 01); "A new event 10 .. adds one list", "Event 11 adds or removes a reserve",
-- "Event 12 names .. a successor account" (document 02, Nos. 1, 4 and 8)
abbrev pub event_open : ℕ
event_open = 1

abbrev pub event_toll : ℕ
event_toll = 2

abbrev pub event_payment : ℕ
event_payment = 3

abbrev pub event_returned_check : ℕ
event_returned_check = 4

abbrev pub event_dispute : ℕ
event_dispute = 5

abbrev pub event_decision : ℕ
event_decision = 6

abbrev pub event_topup_result : ℕ
event_topup_result = 7

abbrev pub event_close_request : ℕ
event_close_request = 8

abbrev pub event_tick : ℕ
event_tick = 9

abbrev pub event_rate_list : ℕ
event_rate_list = 10

abbrev pub event_reserve : ℕ
event_reserve = 11

abbrev pub event_successor : ℕ
event_successor = 12
