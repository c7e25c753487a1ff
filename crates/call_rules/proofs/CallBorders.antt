-- Each limit of the calls at its border and one past it, computed from the definitions: lengths, the opening's words, its holidays (document
-- 02, No. 6), batches; what the questions reply; event 10 as a host sends it (No. 1).
use mathlib.Core.Path.{◌≡◌, refl}
use Prim.Native.Nat.{ℕ, ◌*◌}
use mathlib.Core.List.{List, [], ◌∷◌, ◌++◌, map}
use lib.ListN.{take, replicate, set}
use lib.IntN.{ℤ, pos, negsuc}
use Rattle.lists.specs.Tests.{first}
use Rattle.rules.specs.Tables.{Tables, tables_at, tables_of, tables_with}
use Rattle.rules.proofs.Computing.{computing}
use Rattle.rules.proofs.Examples.{Case, ◌gives◌, ◌amounts-to◌}
use Rattle.rules.proofs.BusinessDayExamples.{days}
use Rattle.rules.proofs.DebtorExamples.{book, among}
use Rattle.rules.proofs.TopupExamples.{fee_held_then}
use Rattle.call_rules.specs.Calls.{Event, DebtorReply, batch_refusals, open_call, event_call, batch_call, balance_call, topup_due_call, debtor_call}
use Rattle.call_rules.proofs.CallComputing.{computing_calls}
use Rattle.call_rules.proofs.CallExamples.{lent, schedule_words, opened, words, sent, posted}

-- ---- how cases are written

-- tables of these lengths
abbrev lengths_of : ℕ → ℕ → ℕ → Tables
lengths_of h a j = tables_at (replicate h (pos 9)) (replicate a (pos 9)) (replicate j (pos 9)) []

-- opening by these words
abbrev opened_by : List ℤ → ℕ
opened_by w = (open_call lent w).number

-- opening with this list of holidays
abbrev opened_with : List ℤ → ℕ
opened_with hs = (open_call (tables_with hs lent) schedule_words).number

-- the opened book with this list
abbrev with_list : List ℤ → Tables
with_list hs = tables_with hs opened

-- a batch of n events with answer words for them
abbrev batch_of : ℕ → ℕ
batch_of n = first (batch_refusals opened (replicate n (sent 9 0 0 0)) (replicate (n * 5) (pos 0)))

-- account 2 with a top-up of 2,000 at 100 or less
abbrev low_on2 : Tables
low_on2 = (batch_call opened (sent 1 2 100 2_000 ∷ []) (replicate 5 (pos 7))).tables

-- the three words of a debtor's reply
abbrev reply : DebtorReply → List ℤ
reply r = pos r.number ∷ r.heavy ∷ r.rows ∷ []

-- account 1 owes 25,001 by its two rows
abbrev indebted : Tables
indebted = tables_of (book among)

-- event 10: a list from a day on, its last rate the highest
abbrev sent10 : ℕ → Event
sent10 day = record { kind = pos 10; account = pos 0; a = pos day; b = pos 1; c = pos 1; d = pos 1; e = pos 1; f = pos 1; g = pos 1_000_000 }

pub cases : List Case
cases =
    -- the tables' lengths, and the words of opening, of an event and of its answer
    (map (λ t. (open_call t schedule_words).number)
    (lengths_of 62 18 30 ∷ lengths_of 61 18 30 ∷ lengths_of 63 18 30 ∷ lengths_of 62 16 30 ∷ lengths_of 62 18 29 ∷ lengths_of 62 18 31 ∷ lengths_of 62 18 0 ∷ [])
    gives 0 ∷ 1 ∷ 1 ∷ 1 ∷ 1 ∷ 1 ∷ 1 ∷ [])
    ∷ (map opened_by
    (take 10 schedule_words ∷ (schedule_words ++ pos 1 ∷ []) ∷ set schedule_words 0 (pos 36_525) ∷ set schedule_words 0 (pos 36_526) ∷ set schedule_words 10 (pos 0) ∷ [])
    gives 2 ∷ 2 ∷ 0 ∷ 2 ∷ 2 ∷ [])
    ∷ (map (λ e. (event_call opened e (replicate 5 (pos 0))).number) (take 8 (words 9 0 0 0) ∷ words 9 0 0 0 ∷ (words 9 0 0 0 ++ pos 0 ∷ []) ∷ [])
    gives 2 ∷ 0 ∷ 2 ∷ [])
    -- 17 at opening, after 1 and 2
    ∷ (opened_with [] ∷ opened_with (days 3) ∷ opened_with (days 401) ∷ opened_with (pos 5 ∷ pos 5 ∷ []) ∷ opened_with (negsuc 0 ∷ []) ∷ []
    gives 0 ∷ 0 ∷ 17 ∷ 17 ∷ 17 ∷ [])
    ∷ ((open_call (tables_with (pos 0 ∷ []) lent) (set schedule_words 0 (pos 0))).number
    ∷ (open_call (tables_at [] [] [] (pos 0 ∷ [])) []).number ∷ []
    gives 2 ∷ 1 ∷ [])
    -- such a list makes the book unsound for every other call
    ∷ ((event_call (with_list (pos 0 ∷ [])) (words 9 0 0 0) (replicate 5 (pos 7))).number ∷ (balance_call (with_list (pos 0 ∷ [])) (pos 1)).number ∷ []
    gives 1 ∷ 1 ∷ [])
    -- a batch of 4,096 events
    ∷ (batch_of 4_096 ∷ batch_of 4_097 ∷ [] gives 0 ∷ 2 ∷ [])
    -- top-up due: 1 yes, 0 no; beside a held toll and its fee, with money of 100 and of 101
    ∷ ((topup_due_call low_on2 (pos 2)).value amounts-to pos 1)
    ∷ ((topup_due_call posted (pos 1)).value amounts-to pos 0)
    ∷ ((topup_due_call (tables_of (fee_held_then 100)) (pos 1)).value amounts-to pos 1)
    ∷ ((topup_due_call (tables_of (fee_held_then 101)) (pos 1)).value amounts-to pos 0)
    -- the debtor: yes; no; 3 of an account that is unused or outside the table, and 1, without a count
    ∷ record { got = reply (debtor_call indebted (pos 1)); want = pos 0 ∷ pos 1 ∷ pos 4 ∷ [] }
    ∷ record { got = reply (debtor_call indebted (pos 2)); want = pos 0 ∷ pos 0 ∷ pos 5 ∷ [] }
    ∷ record { got = reply (debtor_call indebted (pos 3)); want = pos 3 ∷ pos 0 ∷ pos 0 ∷ [] }
    ∷ record { got = reply (debtor_call indebted (pos 4)); want = pos 3 ∷ pos 0 ∷ pos 0 ∷ [] }
    ∷ record { got = reply (debtor_call (tables_with (pos 0 ∷ []) indebted) (pos 1)); want = pos 1 ∷ pos 0 ∷ pos 0 ∷ [] }
    ∷ []

pub record CallBorders : Type 0 where
  pub numbers : map (λ c. c.got) cases ≡ map (λ c. c.want) cases
  -- event 10 writes a to g in the place of a list
  pub header : (batch_call opened (sent10 5 ∷ sent10 9 ∷ []) (replicate 10 (pos 7))).tables.header
      ≡ pos 1 ∷ pos 0 ∷ pos 30 ∷ pos 500 ∷ pos 2500 ∷ pos 3000 ∷ pos 250 ∷ pos 500 ∷ pos 600 ∷ pos 900 ∷ pos 1200 ∷ pos 1600 ∷ pos 1
      ∷ pos 5 ∷ pos 1 ∷ pos 1 ∷ pos 1 ∷ pos 1 ∷ pos 1 ∷ pos 1_000_000
      ∷ pos 9 ∷ pos 1 ∷ pos 1 ∷ pos 1 ∷ pos 1 ∷ pos 1 ∷ pos 1_000_000
      ∷ replicate 35 (pos 0)

pub call-borders : CallBorders
unfolding computing computing_calls cases
call-borders = record { numbers = refl; header = refl }
