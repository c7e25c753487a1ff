-- Demand 3 of calls (document 01, "What demand 3 counts"): one claim about any list of calls from an opening that gave 0.
use Rattle.std.specs.Prelude.{◌≡◌, cond, ℕ, List, [], ◌∷◌, ◌++◌, map, ℤ}
use Rattle.records.specs.Layout.{first_day_place, opening_schedule, opening_rates}
use Rattle.records.specs.Encoding.{word, instruction_of, instruction_from}
use Rattle.lists.specs.Tests.{◌is◌, first}
use Rattle.rules.specs.Book.{Instruction, Book}
use Rattle.rules.specs.Tables.{Tables, accounts_in, holidays_in, schedule_from, rates_from, book_of}
use Rattle.call_rules.specs.Calls.{Event, Called, open_call, event_call, batch_call, event_refusals, batch_refusals}
use Rattle.replay.specs.Replay.{Replay, Report, replay, begin}
use Rattle.replay.specs.Demand3.{reports_of, Demand3}

-- ---- the list of calls

-- a single event's words and its answer table; a batch's event records and its answer table
pub data Call : Type 0 where
  single : List ℤ → List ℤ → Call
  batch : List Event → List ℤ → Call

-- what a call leaves
unfoldable pub called : Tables → Call → Called
called t (single e answers) = event_call t e answers
called t (batch es answers) = batch_call t es answers

-- each call works on the book as the last one left it
unfoldable pub tables_after : Tables → List Call → Tables
tables_after t [] = t
tables_after t (c ∷ cs) = tables_after (called t c).tables cs

-- ---- what the replay is fed

-- the events of a call that is not refused, n being its refusal
unfoldable pub reports_if : ℕ → Book → List Instruction → List Report
reports_if n b es = cond (n is 0) (reports_of b es) []

-- "a batch counts as its events in order, a refused batch as none"
unfoldable pub reports_at : Tables → Call → List Report
reports_at t (single e answers) = reports_if (first (event_refusals t e answers)) (book_of t) (instruction_from e ∷ [])
reports_at t (batch es answers) = reports_if (first (batch_refusals t es answers)) (book_of t) (map instruction_of es)

-- the reports of all calls, each on the tables as the last one left them
unfoldable pub reports : Tables → List Call → List Report
reports t [] = []
reports t (c ∷ cs) = reports_at t c ++ reports (called t c).tables cs

-- ---- the claim

-- "It starts where opening gave 0": w is the opening's words, t the tables it was given
unfoldable pub replay_start : Tables → List ℤ → Replay
replay_start t w =
    begin (word w first_day_place) (schedule_from w opening_schedule) (rates_from w opening_rates) (holidays_in t) (accounts_in t)

-- the claim over any tables and words for which opening gives 0, and any list of calls
abbrev pub Claim3 : Type 0
Claim3 =
    (t : Tables) (w : List ℤ) → (open_call t w).number ≡ 0 → (cs : List Call) →
    let opened : Tables = (open_call t w).tables in
    let start : Replay = replay_start t w in
    let hs : List Report = reports opened cs in
    Demand3 (book_of (tables_after opened cs)) start hs (replay start hs)
