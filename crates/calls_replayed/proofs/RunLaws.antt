-- Demand 3 of the ledger's calls: a run of steps is a list of calls, with the same tables at its end and the same reports; and each call is
-- lent the opening's holidays.
use mathlib.Core.Path.{◌≡◌, refl, sym, ap, ◌∙◌}
use mathlib.Core.List.{List, [], ◌∷◌, ◌++◌}
use lib.IntN.{ℤ, pos}
use Rattle.rules.specs.Tables.{Tables}
use Rattle.call_rules.specs.Calls.{Gives, open_call}
use Rattle.replay.specs.Replay.{Report}
use Rattle.call_replay.specs.CallLists.{Call, single, batch, called, tables_after, reports}
use Rattle.call_replay.proofs.Claim.{demand-3}
use Rattle.calls_replayed.specs.Runs.{Step, event-step, batch-step, balance-step, topup-due-step, debtor-step, Run, none, more, step_reports, run_reports, CallsReplayed, HolidaysStay}
use Rattle.call_rules.proofs.HolidaysStay.{event_call-keeps-holidays, batch_call-keeps-holidays, open_call-keeps-holidays}

-- ---- a step

-- the call of a step: a question is none
unfoldable step_calls : {t u : Tables} → Step t u → List Call
step_calls (event-step e w v n g) = single e w ∷ []
step_calls (batch-step es w v n g) = batch es w ∷ []
step_calls (balance-step account n value g same) = []
step_calls (topup-due-step account n value g same) = []
step_calls (debtor-step account n heavy rows g same) = []

-- the calls after it go on from the tables that it leaves
tables_step : {t u : Tables} (s : Step t u) (cs : List Call) → tables_after t (step_calls s ++ cs) ≡ tables_after u cs
unfolding step_calls tables_after called
tables_step (event-step e w v n g) cs = rw (← g.tables)
tables_step (batch-step es w v n g) cs = rw (← g.tables)
tables_step (balance-step account n value g same) cs = ap (λ (x : Tables). tables_after x cs) (sym same)
tables_step (topup-due-step account n value g same) cs = ap (λ (x : Tables). tables_after x cs) (sym same)
tables_step (debtor-step account n heavy rows g same) cs = ap (λ (x : Tables). tables_after x cs) (sym same)

reports-step : {t u : Tables} (s : Step t u) (cs : List Call) → reports t (step_calls s ++ cs) ≡ step_reports s ++ reports u cs
unfolding step_calls step_reports reports called
reports-step {t} (event-step e w v n g) cs = rw (← g.tables)
reports-step {t} (batch-step es w v n g) cs = rw (← g.tables)
reports-step (balance-step account n value g same) cs = ap (λ (x : Tables). reports x cs) (sym same)
reports-step (topup-due-step account n value g same) cs = ap (λ (x : Tables). reports x cs) (sym same)
reports-step (debtor-step account n heavy rows g same) cs = ap (λ (x : Tables). reports x cs) (sym same)

-- ---- a run

unfoldable run_calls : {t u : Tables} → Run t u → List Call
run_calls none = []
run_calls (more s r) = step_calls s ++ run_calls r

tables-run : {t u : Tables} (r : Run t u) → tables_after t (run_calls r) ≡ u
unfolding run_calls tables_after
tables-run none = refl
tables-run (more s r) = tables_step s (run_calls r) ∙ tables-run r

reports-run : {t u : Tables} (r : Run t u) → reports t (run_calls r) ≡ run_reports r
unfolding run_calls reports run_reports
reports-run none = refl
reports-run (more s r) = reports-step s (run_calls r) ∙ ap (λ (hs : List Report). step_reports s ++ hs) (reports-run r)

-- ---- the claim

-- opening gave 0, so the definition's number is 0
zero-given : (t u : Tables) (w : List ℤ) → Gives (open_call t w) (pos 0) u [] → (open_call t w).number ≡ 0
zero-given t u w g = let e : pos 0 ≡ pos (open_call t w).number = g.number in cc

pub calls-replayed : CallsReplayed
calls-replayed t u v w g run =
    let d = demand-3 t w (zero-given t u w g) (run_calls run) in
    rw (← g.tables, tables-run run, reports-run run) at d

-- ---- the holidays

step-keeps : {t u : Tables} → Step t u → u.holidays ≡ t.holidays
step-keeps {t} (event-step e w v n g) = ap (λ (x : Tables). x.holidays) g.tables ∙ event_call-keeps-holidays t e w
step-keeps {t} (batch-step es w v n g) = ap (λ (x : Tables). x.holidays) g.tables ∙ batch_call-keeps-holidays t es w
step-keeps (balance-step account n value g same) = ap (λ (x : Tables). x.holidays) same
step-keeps (topup-due-step account n value g same) = ap (λ (x : Tables). x.holidays) same
step-keeps (debtor-step account n heavy rows g same) = ap (λ (x : Tables). x.holidays) same

run-keeps : {t u : Tables} → Run t u → u.holidays ≡ t.holidays
run-keeps none = refl
run-keeps (more s r) = run-keeps r ∙ step-keeps s

pub holidays-stay : HolidaysStay
holidays-stay t u v w g run =
    let o : u.holidays ≡ t.holidays = ap (λ (x : Tables). x.holidays) g.tables ∙ open_call-keeps-holidays t w in
    (o, run-keeps run ∙ o)
