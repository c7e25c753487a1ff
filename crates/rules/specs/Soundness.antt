-- A sound book (document 01, "A book is sound when"): each clause a named test, and their conjunction. What concerns the
-- tables alone, their lengths and the rows past the used ones, is in Tables.
use Rattle.std.specs.Prelude.{Bool, not, cond, ◌&&◌, ◌||◌, ℕ, ◌+◌, ◌-◌, List, [], ◌∷◌, map, length, get_or, leb, ltb}
use Rattle.records.specs.Codes.{method_check_returned, dispute_upheld, code_yes}
use Rattle.lists.specs.Tests.{◌is◌, ◌from◌to◌, ◌implies◌, all_of}
use Rattle.lists.specs.Lists.{count, every}
use Rattle.records.specs.Limits
use Rattle.records.specs.Encoding.{account_fields}
use Rattle.rules.specs.Schedule.{schedule_fits}
use Rattle.rules.specs.RateLists.{lists_fit}
use Rattle.rules.specs.BusinessDays.{holidays_fit}
use Rattle.rules.specs.Rows.{Row, kind_toll, kind_fee, kind_reversal, kind_payment, kind_credit, kind_refund, dispute_held, last_stage, Test, row_no, toll, held_toll, unsettled, fee_naming}
use Rattle.rules.specs.Settlement.{money, debt, used, paid, owed}
use Rattle.rules.specs.Book.{Account, state_unused, state_open, state_pending, state_closed, Book, account_no}
use Rattle.rules.specs.Successors.{other_used}
use Rattle.rules.specs.Opening.{day_fits, sizes_fit}

-- ---- a row by itself: "every word has a value that this paper lists", "Words without a use in a kind are 0"

-- "the first "rows used" rows have kinds 1 to 6"
unfoldable pub kind_fits : Test
kind_fits r = r.kind from kind_toll to kind_refund

-- "at most 1,000,000 (kinds 1, 3, 4), 100,000 (2), 1,300,000 (5), 10,649,600,000 (6)"
unfoldable pub most_of : ℕ → ℕ
most_of kind =
    get_or (0 ∷ Limits.highest_rate ∷ Limits.highest_fee ∷ Limits.highest_payment ∷ Limits.highest_payment ∷ Limits.highest_credit
    ∷ Limits.highest_refund ∷ []) kind 0

-- "amounts are at least 1 and at most .."
unfoldable pub amount_fits : Test
amount_fits r = r.amount from 1 to most_of r.kind

-- "settled is 0 to amount, a refund's all of it"
unfoldable pub settled_fits : Test
settled_fits r = leb r.settled r.amount && (r.kind is kind_refund implies r.settled is r.amount)

-- "Mark: a toll's stage 0 to 4; a payment's method (1 card, 2 cash, 3 check, 4 check returned)"
unfoldable pub mark_fits : Test
mark_fits r = cond (toll r) (leb r.mark last_stage) (cond (r.kind is kind_payment) (r.mark from 1 to method_check_returned) (r.mark is 0))

-- "Dispute, tolls only: 0 .. 3"; "Reference: a toll's passage number"; due day, dispute and hold start have no use in other kinds
unfoldable pub toll_words_fit : Test
toll_words_fit r =
    cond (toll r) (leb r.dispute dispute_upheld && r.reference from 1 to Limits.highest_passage)
    (r.due is 0 && r.dispute is 0 && r.hold is 0)

-- a payment and a refund have no reference
unfoldable pub no_reference : Test
no_reference r = r.kind is kind_payment || r.kind is kind_refund implies r.reference is 0

-- ---- a row and the day

-- "days 1 to today"
unfoldable pub row_day_fits : ℕ → Test
row_day_fits today r = r.day from 1 to today

-- a toll is due by `last`; an unsettled unheld one under stage 4 after `past`, another from 1 on
unfoldable pub due_within : ℕ → ℕ → Test
due_within past last r = toll r implies
    leb r.due last && cond (unsettled r && not (held_toll r) && ltb r.mark last_stage) (ltb past r.due) (leb 1 r.due)

-- "an unsettled unheld toll under stage 4 is due after today and by today + L; other tolls are due from 1 to today + L"
abbrev pub due_fits : ℕ → ℕ → Test
due_fits today L r = due_within today (today + L) r

-- "hold start is 0 but for dispute 1, then at least 1 and from today - 29 to today, toll unsettled, due by hold start + L and, under
-- stage 4, after hold start"
unfoldable pub hold_fits : ℕ → ℕ → Test
hold_fits today L r = toll r implies
    cond (r.dispute is dispute_held)
    (leb 1 r.hold && leb today (r.hold + Limits.most_held_days) && leb r.hold today && unsettled r
    && leb r.due (r.hold + L) && (ltb r.mark last_stage implies ltb r.hold r.due))
    (r.hold is 0)

-- ---- a row among the others

-- "rows name used accounts"
unfoldable pub account_used : List Account → Test
account_used xs r = not ((account_no xs r.account).state is state_unused)

-- the reference of row number n is a row of the kind, "in an earlier row of the same account"
unfoldable pub names : List Row → ℕ → Row → ℕ → Bool
names rows n r kind = ltb r.reference n && (row_no rows r.reference).kind is kind && (row_no rows r.reference).account is r.account

-- "references of the right kind (any mark)": "for a fee its toll row or returned payment row; for a reversal its payment row; for a
-- credit its toll row"
unfoldable pub reference_fits : List Row → ℕ → Test
reference_fits rows n r =
    (r.kind is kind_fee implies names rows n r kind_toll || names rows n r kind_payment)
    && (r.kind is kind_reversal implies names rows n r kind_payment)
    && (r.kind is kind_credit implies names rows n r kind_toll)

-- "passage numbers differ": each stands once
unfoldable pub passage : ℕ → Test
passage p r = toll r && r.reference is p

-- "passage numbers differ": a toll's stands once in the journal
unfoldable pub passage_once : List Row → Test
passage_once rows r = toll r implies count (passage r.reference) rows is 1

-- "a toll of stage k is named by at most k - 1 fees (none at 0)"
unfoldable pub fees_fit : List Row → ℕ → Test
fees_fit rows n r = toll r implies leb (count (fee_naming n) rows) (r.mark - 1)

-- every clause about row number n
unfoldable pub row_sound : Book → ℕ → Row → Bool
row_sound b n r = all_of
    (kind_fits r ∷ amount_fits r ∷ settled_fits r ∷ mark_fits r ∷ toll_words_fit r ∷ no_reference r
    ∷ row_day_fits b.day r ∷ due_fits b.day b.schedule.stage r ∷ hold_fits b.day b.schedule.stage r
    ∷ account_used b.accounts r ∷ reference_fits b.rows n r ∷ passage_once b.rows r ∷ fees_fit b.rows n r ∷ [])

-- ---- an account by itself

-- a test of an account
abbrev pub AccountTest : Type 0
AccountTest = Account → Bool

-- "state (0 unused, 1 open, 2 pending to close, 3 closed)"
unfoldable pub state_fits : AccountTest
state_fits x = leb x.state state_closed

-- "unused accounts are all 0"
unfoldable pub unused_zero : AccountTest
unused_zero x = x.state is state_unused implies all_of (map (λ word. word is 0) (account_fields x))

-- "request day is 0 in state 1, in 2 and 3 from 1 to today"
unfoldable pub request_fits : ℕ → AccountTest
request_fits today x = (x.state is state_open implies x.request is 0) && (leb state_pending x.state implies x.request from 1 to today)

-- "threshold and top-up amount lie in 0 to 1,000,000, declines in 0 to 2, .. declines and last decline 0 together, all four 0 where
-- the amount is 0"; the reserve "0 or 1, 0 without a primary" (document 02, No. 4)
unfoldable pub topup_fits : AccountTest
topup_fits x =
    leb x.threshold Limits.highest_topup && leb x.topup Limits.highest_topup && leb x.declines Limits.most_declines
    && (x.declines is 0 implies x.declined is 0) && (x.declined is 0 implies x.declines is 0)
    && leb x.reserve code_yes
    && (x.topup is 0 implies x.threshold is 0 && x.declines is 0 && x.reserve is 0)

-- "last decline in 0 to today"
unfoldable pub decline_fits : ℕ → AccountTest
decline_fits today x = leb x.declined today

-- ---- an account among the others

-- "The account's new word is 0 or another used account's number" (document 02, No. 8)
unfoldable pub successor_fits : List Account → ℕ → AccountTest
successor_fits xs n x = x.successor is 0 || other_used xs n x.successor

-- ---- an account and its rows

-- "returned checks = its payments with mark 4"
unfoldable pub returned_of : ℕ → Test
returned_of n r = r.account is n && r.kind is kind_payment && r.mark is method_check_returned

-- "returned checks = its payments with mark 4"
unfoldable pub returned_fits : List Row → ℕ → AccountTest
returned_fits rows n x = x.returned is count (returned_of n) rows

-- "used sources = settled debits"
unfoldable pub used_is_paid : List Row → ℕ → Bool
used_is_paid rows n = used n rows is paid n rows

-- "no unused source beside an unsettled unheld debit"
unfoldable pub no_idle_money : List Row → ℕ → Bool
no_idle_money rows n = money n rows is 0 || debt n rows is 0

-- "in state 3 nothing unused or unsettled"
unfoldable pub closed_clear : List Row → ℕ → AccountTest
closed_clear rows n x = x.state is state_closed implies money n rows is 0 && owed n rows is 0

-- every clause about account number n
unfoldable pub account_sound : Book → ℕ → Account → Bool
account_sound b n x = all_of
    (state_fits x ∷ unused_zero x ∷ request_fits b.day x ∷ topup_fits x ∷ decline_fits b.day x ∷ successor_fits b.accounts n x
    ∷ returned_fits b.rows n x ∷ used_is_paid b.rows n ∷ no_idle_money b.rows n ∷ closed_clear b.rows n x ∷ [])

-- ---- the book

-- every clause about the book; of the holidays "bounds and order" (document 02, No. 6)
unfoldable pub sound : Book → Bool
sound b = all_of
    (day_fits b.day ∷ schedule_fits b.schedule ∷ lists_fit b.lists
    ∷ sizes_fit (length b.accounts) b.room ∷ leb (length b.rows) b.room
    ∷ every (row_sound b) b.rows ∷ every (account_sound b) b.accounts
    ∷ holidays_fit b.holidays ∷ [])
