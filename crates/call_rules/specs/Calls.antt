-- The calls, on any tables and lengths: every answer word, value, part and table word afterwards (document 01, "Events" and
-- "Questions, dates, listing").
use Rattle.std.specs.Prelude.{◌≡◌, Bool, not, cond, ◌&&◌, ◌||◌, ℕ, ◌*◌, ◌-◌, List, [], ◌∷◌, ◌++◌, map, length, drop, take, leb, ltb, ℤ, pos}
use Rattle.records.specs.Numbers.{answer_unsound, answer_malformed, answer_unknown, answer_holidays}
pub use Rattle.records.specs.declared.Event.{Event}
use Rattle.records.specs.Layout
use Rattle.records.specs.Encoding.{nat_of, word, instruction_of, instruction_from, answer_words, write_all}
use Rattle.lists.specs.Tests.{◌is◌, ◌from◌to◌, Cases, first}
use Rattle.records.specs.Limits.{most_events}
use Rattle.rules.specs.Schedule.{rates_fit, schedule_fits}
use Rattle.rules.specs.BusinessDays.{holidays_fit}
use Rattle.rules.specs.Book.{Instruction, Answer, state_unused, Book, with_holidays, account, balance, topup_due}
use Rattle.rules.specs.Debtors.{heavy, rows_read}
use Rattle.rules.specs.Posting.{receive, Posted, refusal_by, book_after, answers_to}
use Rattle.rules.specs.Opening.{opening, day_fits}
use Rattle.rules.specs.Tables.{Tables, accounts_in, room_in, rows_used, holidays_in, schedule_from, rates_from, book_of, tables_of, lengths_fit, sound_tables}

-- what a call leaves: the number that it returns, the book's tables and the answer table
pub record Called : Type 0 where
  pub number : ℕ
  pub tables : Tables
  pub answers : List ℤ

-- the call gave the number n and left the tables u and the answer table v: just what c says
pub record Gives (c : Called) (n : ℤ) (u : Tables) (v : List ℤ) : Type 0 where
  pub number : n ≡ pos c.number
  pub tables : u ≡ c.tables
  pub answers : v ≡ c.answers

-- "writes the answers in order"; "table words past the answers don't change"
unfoldable pub written : List Answer → List ℤ → List ℤ
written xs t = write_all answer_words xs ++ drop (length xs * Layout.answer_width) t

-- ---- opening: the first day, the schedule and six rates, eleven words

-- eleven words, each in its range
unfoldable pub opening_fits : List ℤ → Bool
opening_fits w =
    length w is Layout.opening_width && day_fits (word w Layout.first_day_place)
    && schedule_fits (schedule_from w Layout.opening_schedule) && rates_fit (rates_from w Layout.opening_rates)

-- "1: opening: lengths unfit", "2: opening: first day or schedule out of range"; 17 "at opening for a list that is too long, out of range
-- or not rising, checked after 2" (document 02, No. 6)
unfoldable pub opening_refusals : Tables → List ℤ → Cases
opening_refusals t w =
    (answer_unsound, not (lengths_fit t))
    ∷ (answer_malformed, not (opening_fits w))
    ∷ (answer_holidays, not (holidays_fit (holidays_in t)))
    ∷ []

-- the book that opening makes: first day, schedule and rates from its words, sizes from the tables, and the holidays: "Opening takes a lent
-- list of .. holidays .. ; that list itself stays" (document 02, No. 6)
unfoldable pub opened_book : Tables → List ℤ → Book
opened_book t w =
    with_holidays (holidays_in t)
    (opening (word w Layout.first_day_place) (schedule_from w Layout.opening_schedule) (rates_from w Layout.opening_rates)
    (accounts_in t) (room_in t))

-- "a refused batch or opening writes nothing"
unfoldable pub open_call : Tables → List ℤ → Called
open_call t w =
    let n : ℕ = first (opening_refusals t w) in
    record { number = n; tables = cond (n is 0) (tables_of (opened_book t w)) t; answers = [] }

-- ---- a single event: nine words, and an answer table with room for five

-- "1: book not sound"; "2: kind, range, length, batch or answer table wrong"
unfoldable pub event_refusals : Tables → List ℤ → List ℤ → Cases
event_refusals t e answers =
    (answer_unsound, not (sound_tables t))
    ∷ (answer_malformed, not (length e is Layout.event_width) || ltb (length answers) Layout.answer_width)
    ∷ []

-- a refusal is an answer too, and is written where there is room for one
unfoldable pub answered : Answer → List ℤ → List ℤ
answered a answers = cond (leb Layout.answer_width (length answers)) (written (a ∷ []) answers) answers

-- 1 before 2 before the refusals of the table; the tables change only where the answer is 0
unfoldable pub event_call : Tables → List ℤ → List ℤ → Called
event_call t e answers =
    let n : ℕ = first (event_refusals t e answers) in
    let p : Posted = receive (book_of t) (instruction_from e) in
    let a : Answer = cond (n is 0) p.answer (refusal_by n) in
    record { number = a.number; tables = cond (a.number is 0) (tables_of p.book) t; answers = answered a answers }

-- ---- a batch: "at most 4,096", "at least five words per event"

unfoldable pub batch_refusals : Tables → List Event → List ℤ → Cases
batch_refusals t es answers =
    (answer_unsound, not (sound_tables t))
    ∷ (answer_malformed, ltb most_events (length es) || ltb (length answers) (length es * Layout.answer_width))
    ∷ []

-- "it goes on after a refusal"; "a refused batch .. writes nothing"
unfoldable pub batch_call : Tables → List Event → List ℤ → Called
batch_call t es answers =
    let n : ℕ = first (batch_refusals t es answers) in
    let list : List Instruction = map instruction_of es in
    cond (n is 0)
    (record { number = 0; tables = tables_of (book_after (book_of t) list); answers = written (answers_to (book_of t) list) answers })
    (record { number = n; tables = t; answers = answers })

-- ---- questions: "Balance and top-up due (1 yes, 0 no) refuse by 1 and 3, with value 0"

pub record Reply : Type 0 where
  pub number : ℕ
  pub value : ℤ

-- the question gave the number n and the value v: just what q says
pub record Replies (q : Reply) (n v : ℤ) : Type 0 where
  pub number : n ≡ pos q.number
  pub value : v ≡ q.value

-- "refuse by 1 and 3": 3 for an account that is unused or outside the table
unfoldable pub question_refusals : Tables → ℕ → Cases
question_refusals t n = (answer_unsound, not (sound_tables t)) ∷ (answer_unknown, (account (book_of t) n).state is state_unused) ∷ []

-- a refused question has value 0
unfoldable pub question : (Book → ℕ → ℤ) → Tables → ℤ → Reply
question f t a =
    let n : ℕ = first (question_refusals t (nat_of a)) in
    record { number = n; value = cond (n is 0) (f (book_of t) (nat_of a)) (pos 0) }

-- "Balance": the signed balance
unfoldable pub balance_call : Tables → ℤ → Reply
balance_call t a = question balance t a

-- "top-up due (1 yes, 0 no)"
unfoldable pub topup_due_call : Tables → ℤ → Reply
topup_due_call t a = question (λ b n. pos (cond (topup_due b n) 1 0)) t a

-- "the reply is the same as from reading all rows. It carries the number of rows read" (document 02, No. 7)
pub record DebtorReply : Type 0 where
  pub number : ℕ
  pub heavy : ℤ
  pub rows : ℤ

-- the question gave the number n, yes or no, and the count r: just what q says
pub record RepliesDebtor (q : DebtorReply) (n v r : ℤ) : Type 0 where
  pub number : n ≡ pos q.number
  pub heavy : v ≡ q.heavy
  pub rows : r ≡ q.rows

-- "this yes or no", 1 or 0, and the rows read; "Unsound and unknown are refused as for the balance, count 0"
unfoldable pub debtor_call : Tables → ℤ → DebtorReply
debtor_call t a =
    let yes : Reply = question (λ b n. pos (cond (heavy b n) 1 0)) t a in
    let count : Reply = question (λ b n. pos (rows_read b n)) t a in
    record { number = yes.number; heavy = yes.value; rows = count.value }

-- "the ten words as the very part of the lent journal, an empty part where the book is unsound or the row isn't used"
unfoldable pub row_call : Tables → ℤ → List ℤ
row_call t n =
    cond (sound_tables t && nat_of n from 1 to rows_used t) (take Layout.row_width (drop ((nat_of n - 1) * Layout.row_width) t.journal)) []
