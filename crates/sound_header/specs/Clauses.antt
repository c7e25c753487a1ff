-- The clauses of soundness on single rows, in the groups in which the code tests them.
use Rattle.std.specs.Prelude.{Bool, ℕ, ◌+◌, ◌*◌, ◌≤◌, List, [], ◌∷◌, ℤ, length, drop, eqb}
use Rattle.lists.specs.Tests.{all_of}
use Rattle.lists.specs.Lists.{every}
use Rattle.records.specs.Layout.{schedule_width, rates_width, row_width}
use Rattle.rules.specs.Rows.{Row}
use Rattle.rules.specs.Book.{Account}
use Rattle.rules.specs.Soundness.{kind_fits, amount_fits, settled_fits, mark_fits, toll_words_fit, no_reference, row_day_fits, due_fits, hold_fits, account_used, reference_fits}
pub use Rattle.rules.specs.Tables.{three_tables}
use Rattle.rules.specs.Tables.{zero_word}

-- a row by itself: the words that differ from kind to kind, and all
unfoldable pub own_words : ℕ → ℕ → Row → Bool
own_words today L r = all_of
    (mark_fits r ∷ toll_words_fit r ∷ no_reference r ∷ row_day_fits today r ∷ due_fits today L r ∷ hold_fits today L r ∷ [])

unfoldable pub row_alone : ℕ → ℕ → Row → Bool
row_alone today L r = all_of (kind_fits r ∷ amount_fits r ∷ settled_fits r ∷ own_words today L r ∷ [])

-- and with the account and the row that it names
unfoldable pub row_passes : List Account → List Row → ℕ → ℕ → ℕ → Row → Bool
row_passes xs rows today L n r = all_of (row_alone today L r ∷ account_used xs r ∷ reference_fits rows n r ∷ [])

unfoldable pub rows_stand : List Account → List Row → ℕ → ℕ → Bool
rows_stand xs rows today L = every (row_passes xs rows today L) rows

-- ---- "later rows .. are all 0"

unfoldable pub empty_row : Row → Bool
empty_row r = all_of
    (eqb r.kind 0 ∷ eqb r.account 0 ∷ eqb r.day 0 ∷ eqb r.amount 0 ∷ eqb r.settled 0
    ∷ eqb r.mark 0 ∷ eqb r.due 0 ∷ eqb r.dispute 0 ∷ eqb r.hold 0 ∷ eqb r.reference 0 ∷ [])

unfoldable pub rest_zero : List ℤ → ℕ → Bool
rest_zero journal used = every zero_word (drop (used * row_width) journal)

-- ---- the lent tables

-- the words of a schedule, and of six rates, from place p on
abbrev pub ScheduleIn : List ℤ → ℕ → Type 0
ScheduleIn t p = p + schedule_width ≤ length t

abbrev pub RatesIn : List ℤ → ℕ → Type 0
RatesIn t p = p + rates_width ≤ length t
