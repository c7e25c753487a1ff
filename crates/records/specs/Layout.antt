-- The layout of the lent tables (document 01, "The book"; document 02): how many words a record has, and the place of each.
-- A later word goes to the end of its record; definitions and code have no bare width or place of a record beside these.
use Rattle.std.specs.Prelude.{ℕ}

-- ---- "Header, 12 words: day, rows used, stage length L, fees for stages 2, 3, 4, six rates"; "The header has 62 words: its 12, the first
-- list's first day, then seven lists (first day, rates)" (document 02, No. 1)

abbrev pub header_width : ℕ
header_width = 62

abbrev pub day_place : ℕ
day_place = 0

abbrev pub used_place : ℕ
used_place = 1

-- the schedule: four words from here on
abbrev pub header_schedule : ℕ
header_schedule = 2

-- the first list's rates: six words from here on, and its first day
abbrev pub header_rates : ℕ
header_rates = 6

abbrev pub header_first_day : ℕ
header_first_day = 12

-- the lists after the first: seven of seven words from here on
abbrev pub header_lists : ℕ
header_lists = 13

abbrev pub later_lists : ℕ
later_lists = 7

-- ---- the opening's arguments: the first day, then the schedule and the rates

abbrev pub opening_width : ℕ
opening_width = 11

abbrev pub first_day_place : ℕ
first_day_place = 0

abbrev pub opening_schedule : ℕ
opening_schedule = 1

abbrev pub opening_rates : ℕ
opening_rates = 5

-- ---- the schedule's words, from its first

abbrev pub schedule_width : ℕ
schedule_width = 4

abbrev pub stage_place : ℕ
stage_place = 0

abbrev pub fee2_place : ℕ
fee2_place = 1

abbrev pub fee3_place : ℕ
fee3_place = 2

abbrev pub fee4_place : ℕ
fee4_place = 3

-- ---- six rates, from their first

abbrev pub rates_width : ℕ
rates_width = 6

abbrev pub tag1_place : ℕ
tag1_place = 0

abbrev pub plate1_place : ℕ
plate1_place = 1

abbrev pub tag2_place : ℕ
tag2_place = 2

abbrev pub plate2_place : ℕ
plate2_place = 3

abbrev pub tag3_place : ℕ
tag3_place = 4

abbrev pub plate3_place : ℕ
plate3_place = 5

-- ---- a list after the first: "(first day, rates)"

abbrev pub list_width : ℕ
list_width = 7

abbrev pub list_day_place : ℕ
list_day_place = 0

abbrev pub list_rates_place : ℕ
list_rates_place = 1

-- ---- "Accounts, 7 words each"; "The account gains a word" for the reserve (document 02, No. 4); "The account's new word" (No. 8)

abbrev pub account_width : ℕ
account_width = 9

abbrev pub state_place : ℕ
state_place = 0

abbrev pub request_place : ℕ
request_place = 1

abbrev pub returned_place : ℕ
returned_place = 2

abbrev pub threshold_place : ℕ
threshold_place = 3

abbrev pub topup_place : ℕ
topup_place = 4

abbrev pub declines_place : ℕ
declines_place = 5

abbrev pub declined_place : ℕ
declined_place = 6

abbrev pub reserve_place : ℕ
reserve_place = 7

abbrev pub successor_place : ℕ
successor_place = 8

-- ---- "Journal, 10 words a row"

abbrev pub row_width : ℕ
row_width = 10

abbrev pub kind_place : ℕ
kind_place = 0

abbrev pub account_place : ℕ
account_place = 1

abbrev pub row_day_place : ℕ
row_day_place = 2

abbrev pub amount_place : ℕ
amount_place = 3

abbrev pub settled_place : ℕ
settled_place = 4

abbrev pub mark_place : ℕ
mark_place = 5

abbrev pub due_place : ℕ
due_place = 6

abbrev pub dispute_place : ℕ
dispute_place = 7

abbrev pub hold_place : ℕ
hold_place = 8

abbrev pub reference_place : ℕ
reference_place = 9

-- ---- an event: "kind, account, a, b, c, d, e"; "event records grow to nine words, a to g" (document 02, No. 1)

abbrev pub event_width : ℕ
event_width = 9

abbrev pub event_kind_place : ℕ
event_kind_place = 0

abbrev pub event_account_place : ℕ
event_account_place = 1

abbrev pub a_place : ℕ
a_place = 2

abbrev pub b_place : ℕ
b_place = 3

abbrev pub c_place : ℕ
c_place = 4

abbrev pub d_place : ℕ
d_place = 5

abbrev pub e_place : ℕ
e_place = 6

abbrev pub f_place : ℕ
f_place = 7

abbrev pub g_place : ℕ
g_place = 8

-- ---- "Answer, five words"

abbrev pub answer_width : ℕ
answer_width = 5
