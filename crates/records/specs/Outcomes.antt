-- The two outcomes of a call or an event, and the answer that tells them (document 01, "Answer, five words"; its table of answers).
use Rattle.std.specs.Prelude.{ℕ, cond, Result, Ok, Err, unwrap_or}
use Rattle.records.specs.Numbers
use Rattle.records.specs.declared.Answer.{Answer}
use Rattle.records.specs.declared.Posting.{Posting}
use Rattle.records.specs.declared.refusals.Refusal.{Refusal}
use Rattle.records.specs.declared.refusals.Refusal.TheVariants as refusal
use Rattle.records.specs.declared.refusals.Refusal.TheVariants.{Unsound, Malformed, Unknown, Taken, Closed, Unclassed, Misdated, Duplicate, Barred, NoRow, Untimely, Reserve, LastDay, Full, Ceiling, Holidays, Successor}

-- the number that the table of answers gives to a refusal
abbrev pub number_of : Refusal → ℕ
number_of Unsound = Numbers.answer_unsound
number_of Malformed = Numbers.answer_malformed
number_of Unknown = Numbers.answer_unknown
number_of Taken = Numbers.answer_taken
number_of Closed = Numbers.answer_closed
number_of Unclassed = Numbers.answer_unclassed
number_of Misdated = Numbers.answer_misdated
number_of Duplicate = Numbers.answer_duplicate
number_of Barred = Numbers.answer_barred
number_of NoRow = Numbers.answer_no_row
number_of Untimely = Numbers.answer_untimely
number_of Reserve = Numbers.answer_reserve
number_of LastDay = Numbers.answer_last_day
number_of Full = Numbers.answer_full
number_of Ceiling = Numbers.answer_ceiling
number_of refusal.List = Numbers.answer_list_refused
number_of Holidays = Numbers.answer_holidays
number_of Successor = Numbers.answer_successor

-- the number that a call gives: 0 where it is not refused
abbrev pub number_by : {A : Type 0} → Result A Refusal → ℕ
number_by (Ok x) = 0
number_by (Err r) = number_of r

-- "Answer, five words: number, first new row (0 if none), new rows, tolls raised, 1 if the top-up was removed"; refused, "other words
-- are 0"
abbrev pub answer_of : Result Posting Refusal → Answer
answer_of (Ok p) = record { number = 0; first = unwrap_or p.first 0; added = p.added; raised = p.raised; removed = cond p.removed 1 0 }
answer_of (Err r) = record { number = number_of r; first = 0; added = 0; raised = 0; removed = 0 }
