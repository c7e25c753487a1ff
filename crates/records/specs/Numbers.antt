-- The numbers of the answers (document 01's table of answers, and those of document 02), under the names of the C header; 0 is "posted".
use Rattle.std.specs.Prelude.{ℕ}

-- "book not sound; opening: lengths unfit"
abbrev pub answer_unsound : ℕ
answer_unsound = 1

-- "kind, range, length, batch or answer table wrong; opening: first day or schedule out of range"
abbrev pub answer_malformed : ℕ
answer_malformed = 2

-- "account unused, or not from 1 to the table's count"
abbrev pub answer_unknown : ℕ
answer_unknown = 3

-- "event 1 on a used account"
abbrev pub answer_taken : ℕ
answer_taken = 4

-- "events 2, 3, 7, 8 on state 3"; event 11 "on a closed account" (document 02, No. 4)
abbrev pub answer_closed : ℕ
answer_closed = 5

-- "one axle above 90 inches"
abbrev pub answer_unclassed : ℕ
answer_unclassed = 6

-- "passage after today or over 60 days back"
abbrev pub answer_misdated : ℕ
answer_misdated = 7

-- "passage number in the journal"
abbrev pub answer_duplicate : ℕ
answer_duplicate = 8

-- "check after three returned ones"
abbrev pub answer_barred : ℕ
answer_barred = 9

-- "no such row, other kind or account"
abbrev pub answer_no_row : ℕ
answer_no_row = 10

-- "event 4: mark not 3; 5: settled whole or dispute not 0; 6: not held; 7: not due; 8: pending"; event 11 "without a primary" (document 02,
-- No. 4)
abbrev pub answer_untimely : ℕ
answer_untimely = 11

-- "tick on day 36,525"
abbrev pub answer_last_day : ℕ
answer_last_day = 12

-- "free rows fewer than the event adds"
abbrev pub answer_full : ℕ
answer_full = 13

-- "a refund above 10,649,600,000"
abbrev pub answer_ceiling : ℕ
answer_ceiling = 14

-- document 02, No. 1: "15 "list" for a first day not after the last list's, or for a ninth list" (List is the library's type)
abbrev pub answer_list_refused : ℕ
answer_list_refused = 15

-- document 02, No. 4: "16 "reserve" for adding one that exists or removing one that doesn't"
abbrev pub answer_reserve : ℕ
answer_reserve = 16

-- document 02, No. 6: "17 "holidays" at opening for a list that is too long, out of range or not rising"
abbrev pub answer_holidays : ℕ
answer_holidays = 17

-- document 02, No. 8: "18 "successor" where the account isn't closed, or the successor is itself, unused or outside the table"
abbrev pub answer_successor : ℕ
answer_successor = 18
