-- The limits that documents 01 and 02 set, each named once.
use Rattle.std.specs.Prelude.{ℕ}

-- "day 36,525 is 2099-12-31"
abbrev pub final_day : ℕ
final_day = 36_525

-- "Accounts, .., 1 to 256 of them"
abbrev pub most_accounts : ℕ
most_accounts = 256

-- "Journal, 10 words a row, 1 to 8,192 rows"
abbrev pub most_rows : ℕ
most_rows = 8_192

-- "A batch takes a lent list of event records, at most 4,096"
abbrev pub most_events : ℕ
most_events = 4_096

-- "stage length L (1 to 365)"
abbrev pub longest_stage : ℕ
longest_stage = 365

-- "fees for stages 2, 3, 4 (0 to 100,000 each)"; a fee row's amount
abbrev pub highest_fee : ℕ
highest_fee = 100_000

-- "six rates (1 to 1,000,000)"; a toll row's amount
abbrev pub highest_rate : ℕ
highest_rate = 1_000_000

-- "Payment: a amount 1 to 1,000,000"; a payment's or a reversal's amount
abbrev pub highest_payment : ℕ
highest_payment = 1_000_000

-- "threshold and top-up amount lie in 0 to 1,000,000"
abbrev pub highest_topup : ℕ
highest_topup = 1_000_000

-- "1,300,000 (5)": a credit's amount
abbrev pub highest_credit : ℕ
highest_credit = 1_300_000

-- "10,649,600,000 (6)": a refund's amount
abbrev pub highest_refund : ℕ
highest_refund = 10_649_600_000

-- "A book holds up to eight rate lists" (document 02, No. 1)
abbrev pub most_lists : ℕ
most_lists = 8

-- "a passage number 1 to 1,000,000,000"
abbrev pub highest_passage : ℕ
highest_passage = 1_000_000_000

-- "c axles 1 to 99, d height 0 to 999 inches"
abbrev pub most_axles : ℕ
most_axles = 99

-- "d height 0 to 999 inches"
abbrev pub highest_height : ℕ
highest_height = 999

-- "b bank charge 0 to 99,500", and "a fee of charge + 500"
abbrev pub highest_charge : ℕ
highest_charge = 99_500

-- "a fee of charge + 500"
abbrev pub return_fee : ℕ
return_fee = 500

-- "declines in 0 to 2"
abbrev pub most_declines : ℕ
most_declines = 2

-- "check after three returned ones"
abbrev pub barring_returns : ℕ
barring_returns = 3

-- "over 60 days back"
abbrev pub latest_days : ℕ
latest_days = 60

-- "holds begun 30 days ago end"
abbrev pub hold_days : ℕ
hold_days = 30

-- "today at least request + 15"
abbrev pub closing_days : ℕ
closing_days = 15

-- "from today - 29 to today": the days before today on which a hold may have begun
abbrev pub most_held_days : ℕ
most_held_days = 29

-- "at most 90 inches": the height up to which a vehicle of two axles is of class 1
abbrev pub low_height : ℕ
low_height = 90

-- "exceed 25,000 cents": the debt that an account may have and be no heavy debtor (document 02, No. 7)
abbrev pub heavy_debt : ℕ
heavy_debt = 25000

-- the days of a week
abbrev pub week_days : ℕ
week_days = 7

-- "a lent list of at most 400 holidays" (document 02, No. 6)
abbrev pub most_holidays : ℕ
most_holidays = 400

-- an array by account number has a slot for each number from 0 to most_accounts
abbrev pub slot_count : ℕ
slot_count = 257
