-- Runs of the ledger's calls: each step is what the contract of one function of toll_ledger ensures, whatever its words are. toll_ledger_c
-- exports these functions with the same clauses.
use Rattle.std.specs.Prelude.{◌≡◌, List, [], ◌++◌, ℤ, pos}
use Rattle.rules.specs.Tables.{Tables, book_of}
use Rattle.call_rules.specs.Calls.{Event, Gives, Replies, RepliesDebtor, open_call, event_call, batch_call, balance_call, topup_due_call, debtor_call}
use Rattle.replay.specs.Replay.{Replay, Report, replay}
use Rattle.replay.specs.Demand3.{Demand3}
use Rattle.call_replay.specs.CallLists.{single, batch, reports_at, replay_start}

-- one call on the tables t, the fourth of them the holidays, that leaves the tables u; n is the number that it gave, w and v its answer
-- table before and after. A question is lent the tables to read, so they stay
pub data Step (t u : Tables) : Type 0 where
  event-step : (e w v : List ℤ) (n : ℤ) → Gives (event_call t e w) n u v → Step t u
  batch-step : (es : List Event) (w v : List ℤ) (n : ℤ) → Gives (batch_call t es w) n u v → Step t u
  balance-step : (account n value : ℤ) → Replies (balance_call t account) n value → u ≡ t → Step t u
  topup-due-step : (account n value : ℤ) → Replies (topup_due_call t account) n value → u ≡ t → Step t u
  debtor-step : (account n heavy rows : ℤ) → RepliesDebtor (debtor_call t account) n heavy rows → u ≡ t → Step t u

-- calls in order, from the tables t to the tables u, each on the tables as the last one left them: so each is lent the holidays that the
-- first was (HolidaysStay)
pub data Run : Tables → Tables → Type 0 where
  none : {t : Tables} → Run t t
  more : {t u v : Tables} → Step t u → Run u v → Run t v

-- what the replay is fed of a call: its events and which are accepted; of a question nothing
unfoldable pub step_reports : {t u : Tables} → Step t u → List Report
step_reports {t} (event-step e w v n g) = reports_at t (single e w)
step_reports {t} (batch-step es w v n g) = reports_at t (batch es w)
step_reports (balance-step account n value g same) = []
step_reports (topup-due-step account n value g same) = []
step_reports (debtor-step account n heavy rows g same) = []

-- the reports of a run, in order
unfoldable pub run_reports : {t u : Tables} → Run t u → List Report
run_reports none = []
run_reports (more s r) = step_reports s ++ run_reports r

-- demand 3 of these calls: opening gave 0 on the tables t, by its contract, and a run leads from the tables u that it made to v
abbrev pub CallsReplayed : Type 0
CallsReplayed =
    (t u v : Tables) (w : List ℤ) → Gives (open_call t w) (pos 0) u [] → (run : Run u v) →
    let start : Replay = replay_start t w in
    let hs : List Report = run_reports run in
    Demand3 (book_of v) start hs (replay start hs)

-- and each call of such a run was lent the very list of holidays that the opening took: "that list itself stays as the book's fourth table"
-- (document 02, No. 6)
abbrev pub HolidaysStay : Type 0
HolidaysStay =
    (t u v : Tables) (w : List ℤ) → Gives (open_call t w) (pos 0) u [] → Run u v →
    (u.holidays ≡ t.holidays) × (v.holidays ≡ t.holidays)
