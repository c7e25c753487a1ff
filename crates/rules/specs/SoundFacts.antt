-- Soundness as facts: a record for a row, an account and a book, equal to the test (law: sound-facts, facts-sound). The parts are split by
-- what they read, so that each law of preservation touches few of them.
use Rattle.std.specs.Prelude.{◌≡◌, true, ℕ, suc, ◌+◌, ◌<◌, List, length, get_or, leb}
use Rattle.rules.specs.Schedule.{schedule_fits}
use Rattle.rules.specs.RateLists.{lists_fit}
use Rattle.rules.specs.BusinessDays.{holidays_fit}
use Rattle.rules.specs.Rows.{Row, blank}
use Rattle.rules.specs.Book.{Account, unused, Book}
use Rattle.rules.specs.Opening.{day_fits, sizes_fit}
use Rattle.rules.specs.Soundness.{kind_fits, amount_fits, settled_fits, mark_fits, toll_words_fit, no_reference, row_day_fits, due_within, hold_fits, account_used, reference_fits, passage_once, fees_fit, state_fits, unused_zero, request_fits, topup_fits, decline_fits, successor_fits, returned_fits, used_is_paid, no_idle_money, closed_clear}

-- what does not look at the part settled
pub record Shape (today : ℕ) (xs : List Account) (rows : List Row) (n : ℕ) (r : Row) : Type 0 where
  pub kind : kind_fits r ≡ true
  pub amount : amount_fits r ≡ true
  pub mark : mark_fits r ≡ true
  pub words : toll_words_fit r ≡ true
  pub none : no_reference r ≡ true
  pub day : row_day_fits today r ≡ true
  pub account : account_used xs r ≡ true
  pub reference : reference_fits rows n r ≡ true
  pub passage : passage_once rows r ≡ true
  pub fees : fees_fit rows n r ≡ true

-- what does, of the row alone; open tolls are due after `past`: today in a sound book, yesterday in the middle of a tick
pub record Live (past today L : ℕ) (r : Row) : Type 0 where
  pub settled : settled_fits r ≡ true
  pub due : due_within past (today + L) r ≡ true
  pub hold : hold_fits today L r ≡ true

-- an account by itself
pub record Standing (today : ℕ) (x : Account) : Type 0 where
  pub state : state_fits x ≡ true
  pub zero : unused_zero x ≡ true
  pub request : request_fits today x ≡ true
  pub topup : topup_fits x ≡ true
  pub decline : decline_fits today x ≡ true

-- an account and its rows: all but "no unused source beside an unsettled unheld debit", which settlement makes
pub record SumsFit (rows : List Row) (n : ℕ) (x : Account) : Type 0 where
  pub returned : returned_fits rows n x ≡ true
  pub used-is-paid : used_is_paid rows n ≡ true
  pub clear : closed_clear rows n x ≡ true

-- a sound book but for what settlement makes
pub record Near (past : ℕ) (b : Book) : Type 0 where
  pub day : day_fits b.day ≡ true
  pub schedule : schedule_fits b.schedule ≡ true
  pub lists : lists_fit b.lists ≡ true
  pub sizes : sizes_fit (length b.accounts) b.room ≡ true
  pub fits : leb (length b.rows) b.room ≡ true
  pub shape : (k : ℕ) → k < length b.rows → Shape b.day b.accounts b.rows (suc k) (get_or b.rows k blank)
  pub live : (k : ℕ) → k < length b.rows → Live past b.day b.schedule.stage (get_or b.rows k blank)
  pub standing : (k : ℕ) → k < length b.accounts → Standing b.day (get_or b.accounts k unused)
  pub successors : (k : ℕ) → k < length b.accounts → successor_fits b.accounts (suc k) (get_or b.accounts k unused) ≡ true
  pub counted : (k : ℕ) → k < length b.accounts → SumsFit b.rows (suc k) (get_or b.accounts k unused)
  pub holidays : holidays_fit b.holidays ≡ true

pub record Sound (b : Book) : Type 0 where
  pub near : Near b.day b
  pub no-idle-money : (k : ℕ) → k < length b.accounts → no_idle_money b.rows (suc k) ≡ true
