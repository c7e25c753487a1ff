-- The replay (document 01, "What demand 3 counts"): it knows no stage, due day or journal, and of an account's state only whether it is
-- closed, which it tells by the closing rule (document 02, No. 8).
use Rattle.std.specs.Prelude.{Bool, true, false, not, cond, ◌&&◌, ℕ, ◌+◌, ◌*◌, ◌-◌, List, [], ◌∷◌, ◌++◌, map, length, get_or, set, replicate, leb, ltb}
use Rattle.records.specs.Codes.{code_yes}
use Rattle.records.specs.declared.Instruction.{Instruction}
use Rattle.lists.specs.Tests.{◌is◌}
use Rattle.lists.specs.Lists.{sum_by, only, exists, one, gather, change}
use Rattle.records.specs.Limits.{return_fee, hold_days, closing_days}
use Rattle.rules.specs.Schedule.{Rates, Schedule, class, rate, stage_fee}
use Rattle.rules.specs.RateLists.{RateList, in_force, list_of}
use Rattle.rules.specs.BusinessDays.{business_day}
use Rattle.replay.specs.Entries.{Entry, EntryTest, kind_toll, kind_fee, kind_reversal, kind_payment, kind_credit, kind_refund, new_entry, with_covered, with_hold, with_ticks, with_open_days, with_toll, entry_no, is_money, is_toll, uncovered, covered_whole, cover_whole, fee_of, money_in, money_out, settle_all_entries}

-- "per account the top-up amount and request day"; the successor, and whether it is taken as closed (document 02, No. 8)
pub record Note : Type 0 where
  pub topup : ℕ
  pub request : ℕ
  pub successor : ℕ
  pub closed : Bool

-- nothing noted yet
abbrev pub no_note : Note
no_note = record { topup = 0; request = 0; successor = 0; closed = false }

-- the note with another top-up amount
abbrev pub with_topup : ℕ → Note → Note
with_topup v x = record { topup = v; request = x.request; successor = x.successor; closed = x.closed }

-- the note with another request day
abbrev pub with_request : ℕ → Note → Note
with_request v x = record { topup = x.topup; request = v; successor = x.successor; closed = x.closed }

-- the note with another successor
abbrev pub with_successor : ℕ → Note → Note
with_successor v x = record { topup = x.topup; request = x.request; successor = v; closed = x.closed }

-- the note, closed or not
abbrev pub with_closed : Bool → Note → Note
with_closed v x = record { topup = x.topup; request = x.request; successor = x.successor; closed = v }

-- "It keeps the day, per account the top-up amount and request day, and entries"; the schedule is the opening's, the rate lists are those
-- added so far (document 02, No. 1), the holidays those lent with the opening (No. 6)
pub record Replay : Type 0 where
  pub day : ℕ
  pub schedule : Schedule
  pub lists : List RateList
  pub holidays : List ℕ
  pub notes : List Note
  pub entries : List Entry

-- the replay with other entries
abbrev pub with_entries : List Entry → Replay → Replay
with_entries xs p = record {
  day = p.day;
  schedule = p.schedule;
  lists = p.lists;
  holidays = p.holidays;
  notes = p.notes;
  entries = xs;
}

-- the replay with other notes
abbrev pub with_notes : List Note → Replay → Replay
with_notes ns p = record {
  day = p.day;
  schedule = p.schedule;
  lists = p.lists;
  holidays = p.holidays;
  notes = ns;
  entries = p.entries;
}

-- the note of account n, counted from 1
abbrev pub note_no : List Note → ℕ → Note
note_no ns n = get_or (no_note ∷ ns) n no_note

-- the note of account n, written
abbrev pub put_note : ℕ → Note → Replay → Replay
put_note n x p = with_notes (set p.notes (n - 1) x) p

-- an entry more
abbrev pub add_entry : Entry → Replay → Replay
add_entry x p = with_entries (p.entries ++ (x ∷ [])) p

-- entry n, written
abbrev pub change_entry : ℕ → Entry → Replay → Replay
change_entry n x p = with_entries (set p.entries (n - 1) x) p

-- "each ending with settlement among the entries"
unfoldable pub settled_replay : Replay → Replay
settled_replay p = with_entries (settle_all_entries (length p.notes) p.entries) p

-- what an accepted event does to the replay, before settlement
abbrev pub Step : Type 0
Step = Replay → Instruction → Replay

-- ---- "1 notes b, 8 the request day"; "the replay therefore notes event 12" (document 02, No. 8)

-- "1 notes b"
unfoldable pub note_topup : Step
note_topup p e = put_note e.account (with_topup e.b (note_no p.notes e.account)) p

-- "8 the request day"
unfoldable pub note_request : Step
note_request p e = put_note e.account (with_request p.day (note_no p.notes e.account)) p

-- "notes event 12": its word a
unfoldable pub note_successor : Step
note_successor p e = put_note e.account (with_successor e.a (note_no p.notes e.account)) p

-- ---- "2 adds a toll at its rate, 3 a payment of a, 7 if paid one of the noted b"

-- the account of a toll sent to account n: "A toll for a closed account .. posts on the successor" (document 02, No. 8)
unfoldable pub toll_goes_to : List Note → ℕ → ℕ
toll_goes_to ns n = cond (note_no ns n).closed (note_no ns n).successor n

-- "2 adds a toll at its rate": "Sums of tolls are counted at the lists added before each" (document 02, No. 1); "Each such toll belongs to
-- the successor's sums" (No. 8)
unfoldable pub add_toll : Step
add_toll p e =
    add_entry
    (new_entry kind_toll (toll_goes_to p.notes e.account) p.day (rate (in_force p.lists e.b).rates (class e.c e.d) e.e)) p

-- "3 a payment of a"
unfoldable pub add_payment : Step
add_payment p e = add_entry (new_entry kind_payment e.account p.day e.a) p

-- "7 if paid one of the noted b"
unfoldable pub add_topup : Step
add_topup p e = cond (e.b is code_yes) (add_entry (new_entry kind_payment e.account p.day (note_no p.notes e.account).topup) p) p

-- ---- "4 adds a reversal of the payment's amount, then a fee of charge + 500"

-- an account is closed "until a returned check" (document 02, No. 8)
abbrev pub reopen : Step
reopen p e = put_note e.account (with_closed false (note_no p.notes e.account)) p

-- "a reversal of the payment's amount, then a fee of charge + 500"
unfoldable pub add_return : Step
add_return p e =
    add_entry (new_entry kind_fee e.account p.day (e.b + return_fee))
    (add_entry (new_entry kind_reversal e.account p.day (entry_no p.entries e.a).amount) (reopen p e))

-- ---- "5 holds the toll and its fees, 6 frees them"

-- a fee is held with its toll: Entries.on_hold
unfoldable pub set_hold : Bool → Step
set_hold v p e = change_entry e.a (with_hold v (entry_no p.entries e.a)) p

-- what f gives for toll n and its fees
unfoldable pub toll_and_fees : ℕ → (Entry → ℕ) → List Entry → ℕ
toll_and_fees n f xs = f (entry_no xs n) + sum_by (only (fee_of n) f) xs

-- "Verdict 1 adds a credit of their amounts, which first covers what is uncovered of exactly these"
unfoldable pub add_credit : Step
add_credit p e =
    add_entry (with_covered (toll_and_fees e.a uncovered p.entries)
    (new_entry kind_credit e.account p.day (toll_and_fees e.a (λ x. x.amount) p.entries)))
    (with_entries (map (λ x. cond (fee_of e.a x) (cover_whole x) x)
    (set p.entries (e.a - 1) (cover_whole (entry_no p.entries e.a)))) p)

-- event 6: frees the toll; an upheld one is credited
unfoldable pub free_toll : Step
free_toll p e = cond (e.b is code_yes) (add_credit (set_hold false p e) e) (set_hold false p e)

-- ---- 9

-- "tolls neither covered whole nor held gain an open day"
unfoldable pub gains : EntryTest
gains x = is_toll x && not (covered_whole x) && not x.hold

-- "held ones count a tick, freed by the 30th"
unfoldable pub count_tick : Entry → Entry
count_tick x = with_hold (not (x.ticks + 1 is hold_days)) (with_ticks (x.ticks + 1) x)

-- what a tick counts for an entry: an open day, a tick held, or nothing
unfoldable pub count_day : Entry → Entry
count_day x = cond (gains x) (with_open_days (x.open-days + 1) x) (cond x.hold (count_tick x) x)

-- "each toll that this tick brought to k × L open days": x is the entry as it was before the tick
unfoldable pub reaches : ℕ → ℕ → EntryTest
reaches L k x = gains x && x.open-days + 1 is k * L

-- "adds fee k if not 0": n is the toll's number
unfoldable pub add_fee : Schedule → ℕ → ℕ → Entry → ℕ → List Entry
add_fee s today n x k =
    one (reaches s.stage k x && ltb 0 (stage_fee s k)) (with_toll n (new_entry kind_fee x.account today (stage_fee s k)))

-- "k 2 to 4"
unfoldable pub add_fees : Schedule → ℕ → ℕ → Entry → List Entry
add_fees s today n x = add_fee s today n x 2 ++ add_fee s today n x 3 ++ add_fee s today n x 4

-- "each requested account at or past request + 15, with no toll held and a balance by demand 3's formula of at least 0, closes"; "The
-- replay closes on such days only" (document 02, No. 6)
unfoldable pub closing : List ℕ → ℕ → List Entry → ℕ → Note → Bool
closing hs today xs a x =
    ltb 0 x.request && business_day hs today && leb (x.request + closing_days) today
    && not (exists (λ y. y.account is a && (is_toll y && y.hold)) xs)
    && leb (money_out a xs) (money_in a xs)

-- "that balance, if not 0, is added as a refund covered whole"
unfoldable pub add_refund : List ℕ → ℕ → List Entry → ℕ → Note → List Entry
add_refund hs today xs a x =
    one (closing hs today xs a x && ltb (money_out a xs) (money_in a xs))
    (cover_whole (new_entry kind_refund a today (money_in a xs - money_out a xs)))

-- "all its money used"
unfoldable pub use_money : List ℕ → ℕ → List Note → List Entry → Entry → Entry
use_money hs today ns xs y = cond (is_money y && closing hs today xs y.account (note_no ns y.account)) (cover_whole y) y

-- "takes an account as closed from the tick at which its closing rule is met" (document 02, No. 8)
unfoldable pub close_note : List ℕ → ℕ → List Entry → ℕ → Note → Note
close_note hs today xs a x = cond (closing hs today xs a x) (with_closed true x) x

-- all closings of a tick, judged on the entries before them
unfoldable pub close_all : Replay → Replay
close_all p =
    with_notes (change (close_note p.holidays p.day p.entries) p.notes)
    (with_entries
    (map (use_money p.holidays p.day p.notes p.entries) p.entries ++ gather (add_refund p.holidays p.day p.entries) p.notes) p)

-- "9: the day rises; .. settlement; .. adds fee k ..; by number, each requested account .. closes"
unfoldable pub tick_replay : Step
tick_replay p e =
    let today : ℕ = p.day + 1 in
    let xs : List Entry = settle_all_entries (length p.notes) (map count_day p.entries) in
    close_all (record {
      day = today;
      schedule = p.schedule;
      lists = p.lists;
      holidays = p.holidays;
      notes = p.notes;
      entries = xs ++ gather (add_fees p.schedule today) p.entries;
    })

-- ---- 10 (document 02, No. 1)

-- "adds one list"
unfoldable pub note_list : Step
note_list p e = record {
  day = p.day;
  schedule = p.schedule;
  lists = p.lists ++ (list_of e ∷ []);
  holidays = p.holidays;
  notes = p.notes;
  entries = p.entries;
}

-- ---- any event

abbrev pub no_step : Step
no_step p e = p

-- the events by their kind; nothing of event 11 is kept (document 02, No. 4), for the amount that a paid top-up adds is noted, whoever pays
unfoldable pub step_of : ℕ → Step
step_of k =
    get_or (no_step ∷ note_topup ∷ add_toll ∷ add_payment ∷ add_return ∷ set_hold true ∷ free_toll ∷ add_topup ∷ note_request ∷ tick_replay
    ∷ note_list ∷ no_step ∷ note_successor ∷ []) k no_step

-- what a replay is fed: an event, and whether it is accepted
pub record Report : Type 0 where
  pub event : Instruction
  pub accepted : Bool

-- "Refused events do nothing. Accepted ones, each ending with settlement among the entries"
unfoldable pub replay_one : Replay → Report → Replay
replay_one p h = cond h.accepted (settled_replay (step_of h.event.kind p h.event)) p

-- reports in order
unfoldable pub replay : Replay → List Report → Replay
replay p [] = p
replay p (h ∷ hs) = replay (replay_one p h) hs

-- the replay at the opening: its day, its schedule and rates, its holidays, and how many accounts its table has; "The opening's list has
-- the opening day as its first day"
unfoldable pub begin : ℕ → Schedule → Rates → List ℕ → ℕ → Replay
begin day s r hs accounts = record {
  day = day;
  schedule = s;
  lists = record { first_day = day; rates = r } ∷ [];
  holidays = hs;
  notes = replicate accounts no_note;
  entries = [];
}
