-- Events 1 to 8 (document 01, "Events"), 10, 11 and 12 (document 02, Nos. 1, 4 and 8): what each does to the book when it is accepted,
-- before settlement.
use Rattle.std.specs.Prelude.{cond, ℕ, ◌+◌, ◌-◌, List, [], ◌∷◌, ◌++◌, map, set}
use Rattle.records.specs.Codes.{method_card, method_check_returned, dispute_ended, dispute_upheld, code_yes}
use Rattle.records.specs.AccountOperations.{opened, check_returned, declined_on, topup_paid, close_requested_on, reserve_set, successor_set}
use Rattle.lists.specs.Tests.{◌is◌}
use Rattle.lists.specs.Lists.{sum_by, only}
use Rattle.records.specs.Limits.{return_fee}
use Rattle.rules.specs.Schedule.{class, rate}
use Rattle.rules.specs.RateLists.{RateList, in_force, list_of}
use Rattle.rules.specs.Rows.{Row, kind_toll, kind_fee, kind_reversal, kind_payment, kind_credit, dispute_held, new_row, with_settled, with_mark, with_due, with_dispute, with_hold_start, with_reference, remaining, settle_whole, fee_naming}
use Rattle.rules.specs.Book.{Book, Instruction, with_lists, with_rows, account, row, put_account, put_row, add_row}

-- what an accepted event makes of the book, settlement apart
abbrev pub Change : Type 0
Change = Book → Instruction → Book

-- ---- 1. "Open: a threshold, b top-up amount"

-- the account is put back as opened
unfoldable pub open_account : Change
open_account b e = put_account e.account (opened e.a e.b) b

-- ---- 2. "Toll: a passage number, .. c axles, d height, e mode. Row: rate, stage 0, due today + L"

-- the rate by class and mode: "A toll takes the list in force on its passage day, not on the posting day" (document 02, No. 1)
unfoldable pub toll_rate : List RateList → Instruction → ℕ
toll_rate ls e = rate (in_force ls e.b).rates (class e.c e.d) e.e

-- "Row: rate, stage 0, due today + L", its reference the passage number
unfoldable pub post_toll : Change
post_toll b e =
    add_row (with_reference e.a (with_due (b.day + b.schedule.stage) (new_row kind_toll e.account b.day (toll_rate b.lists e)))) b

-- ---- 3. "Payment: a amount, b method"

-- the mark is the method
unfoldable pub post_payment : Change
post_payment b e = add_row (with_mark e.b (new_row kind_payment e.account b.day e.a)) b

-- ---- 4. "Returned check: a payment row, b bank charge. Adds a reversal of the amount, then a fee of charge + 500; mark becomes 4,
-- the count rises; a closed account becomes pending with its old request day"

-- the reversal and the fee name the payment row
unfoldable pub return_check : Change
return_check b e =
    add_row (with_reference e.a (new_row kind_fee e.account b.day (e.b + return_fee)))
    (add_row (with_reference e.a (new_row kind_reversal e.account b.day (row b e.a).amount))
    (put_row e.a (with_mark method_check_returned (row b e.a))
    (put_account e.account (check_returned (account b e.account)) b)))

-- ---- 5. "Dispute: a toll row. Hold starts today"

-- dispute 1, hold start today
unfoldable pub hold_from : ℕ → Row → Row
hold_from today r = with_hold_start today (with_dispute dispute_held r)

-- the toll row is written held
unfoldable pub hold_toll : Change
hold_toll b e = put_row e.a (hold_from b.day (row b e.a)) b

-- ---- 6. "Decision: a toll row, b verdict"

-- "0: dispute 2, due moves by today - hold start. .. Hold start becomes 0"
unfoldable pub release : ℕ → Row → Row
release today r = with_hold_start 0 (with_dispute dispute_ended (with_due (r.due + (today - r.hold)) r))

-- verdict 0
unfoldable pub reject : Change
reject b e = put_row e.a (release b.day (row b e.a)) b

-- what f gives for the toll "plus all its fees"
unfoldable pub with_fees : Book → ℕ → (Row → ℕ) → ℕ
with_fees b n f = f (row b n) + sum_by (only (fee_naming n) f) b.rows

-- "1: dispute 3, and a credit of the toll plus all its fees settles what is unsettled of exactly these; the rest of the credit is unused"
unfoldable pub uphold : Change
uphold b e =
    add_row (with_reference e.a (with_settled (with_fees b e.a remaining)
    (new_row kind_credit e.account b.day (with_fees b e.a (λ r. r.amount)))))
    (with_rows (map (λ r. cond (fee_naming e.a r) (settle_whole r) r)
    (set b.rows (e.a - 1) (settle_whole (with_hold_start 0 (with_dispute dispute_upheld (row b e.a)))))) b)

-- "b verdict": 1 upholds, 0 rejects
unfoldable pub decide : Change
decide b e = cond (e.b is code_yes) (uphold b e) (reject b e)

-- ---- 7. "Top-up result: b 1 paid, 0 declined"

-- "Paid: a card payment, declines and last decline 0", whichever method pays
unfoldable pub pay_topup : Change
pay_topup b e =
    add_row (with_mark method_card (new_row kind_payment e.account b.day (account b e.account).topup))
    (put_account e.account (topup_paid (account b e.account)) b)

-- "Declined: count up, last decline today; the third clears all four words"
unfoldable pub decline_topup : Change
decline_topup b e = put_account e.account (declined_on b.day (account b e.account)) b

-- "b 1 paid, 0 declined"
unfoldable pub topup_result : Change
topup_result b e = cond (e.b is code_yes) (pay_topup b e) (decline_topup b e)

-- ---- 8. "Close request: pending from today"

-- the account is put back as pending
unfoldable pub request_close : Change
request_close b e = put_account e.account (close_requested_on b.day (account b e.account)) b

-- ---- 10. "A new event 10, account 0 as at a tick, adds one list" (document 02, No. 1)

-- after the lists there are
unfoldable pub add_list : Change
add_list b e = with_lists (b.lists ++ (list_of e ∷ [])) b

-- ---- 11. "Event 11 adds or removes a reserve, with word a 1 or 0" (document 02, No. 4)

-- the account is put back with its reserve
unfoldable pub set_reserve : Change
set_reserve b e = put_account e.account (reserve_set e.a (account b e.account)) b

-- ---- 12. "Event 12 names, for a closed account, a successor account in word a" (document 02, No. 8)

-- the account is put back with its successor
unfoldable pub set_successor : Change
set_successor b e = put_account e.account (successor_set e.a (account b e.account)) b
