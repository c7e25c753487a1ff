-- The calls on small tables, computed from the definitions: every number that a call itself can give, and what it writes.
use mathlib.Core.Path.{◌≡◌, refl}
use Prim.Native.Nat.{ℕ}
use mathlib.Core.List.{List, [], ◌∷◌, map}
use lib.ListN.{length, replicate, set}
use lib.IntN.{ℤ, pos, negsuc}
use Rattle.rules.specs.Tables.{Tables, tables_at}
use Rattle.rules.proofs.Computing.{computing}
use Rattle.rules.proofs.Examples.{Case, ◌gives◌, ◌amounts-to◌}
use Rattle.call_rules.specs.Calls.{Event, open_call, event_call, batch_call, balance_call, topup_due_call, row_call}
use Rattle.call_rules.proofs.CallComputing.{computing_calls}

-- ---- tables of two accounts and three rows

-- as a host may hand them over, full of other numbers
abbrev pub lent : Tables
lent = tables_at (replicate 62 (pos 9)) (replicate 18 (pos 9)) (replicate 30 (pos 9)) []

abbrev pub schedule_words : List ℤ
schedule_words = pos 1 ∷ pos 30 ∷ pos 500 ∷ pos 2500 ∷ pos 3000 ∷ pos 250 ∷ pos 500 ∷ pos 600 ∷ pos 900 ∷ pos 1200 ∷ pos 1600 ∷ []

abbrev pub opened : Tables
opened = (open_call lent schedule_words).tables

-- ---- events

abbrev pub words : ℕ → ℕ → ℕ → ℕ → List ℤ
words kind account a b = pos kind ∷ pos account ∷ pos a ∷ pos b ∷ replicate 5 (pos 0)

abbrev pub sent : ℕ → ℕ → ℕ → ℕ → Event
sent kind account a b = record { kind = pos kind; account = pos account; a = pos a; b = pos b; c = pos 0; d = pos 0; e = pos 0; f = pos 0; g = pos 0 }

-- an answer table of six words
abbrev six : List ℤ
six = replicate 6 (pos 7)

-- account 1 opened, 300 paid, a refused payment of 0, 400 paid: a batch with one refusal
abbrev day : List Event
day = sent 1 1 0 0 ∷ sent 3 1 300 2 ∷ sent 3 1 0 2 ∷ sent 3 1 400 1 ∷ []

abbrev pub posted : Tables
posted = (batch_call opened day (replicate 20 (pos 7))).tables

-- a book that is sound but for one word: row 1 of kind 7
abbrev damaged : Tables
damaged = tables_at posted.header posted.accounts (set posted.journal 0 (pos 7)) []

pub cases : List Case
cases =
    -- opening: 0; lengths unfit: 1; schedule out of range or too short: 2
    ((open_call lent schedule_words).number
    ∷ (open_call (tables_at lent.header (replicate 16 (pos 9)) lent.journal []) schedule_words).number
    ∷ (open_call (tables_at lent.header [] lent.journal []) schedule_words).number
    ∷ (open_call lent (set schedule_words 1 (pos 366))).number
    ∷ (open_call lent (set schedule_words 0 (negsuc 0))).number
    ∷ (open_call lent []).number ∷ [] gives 0 ∷ 1 ∷ 1 ∷ 2 ∷ 2 ∷ 2 ∷ [])
    -- a single event: unsound before malformed; nine words, and five for the answer
    ∷ ((event_call lent (words 9 0 0 0) six).number
    ∷ (event_call lent [] []).number
    ∷ (event_call damaged (words 9 0 0 0) six).number
    ∷ (event_call opened [] six).number
    ∷ (event_call opened (words 9 0 0 0) (replicate 4 (pos 7))).number
    ∷ (event_call opened (words 13 0 0 0) six).number
    ∷ (event_call opened (words 3 3 100 2) six).number
    ∷ (event_call opened (words 9 0 0 0) six).number ∷ [] gives 1 ∷ 1 ∷ 1 ∷ 2 ∷ 2 ∷ 2 ∷ 3 ∷ 0 ∷ [])
    -- a batch: it goes on after a refusal; an empty one runs; 4 events want 20 words
    ∷ ((batch_call opened day (replicate 20 (pos 7))).number
    ∷ (batch_call opened day (replicate 19 (pos 7))).number
    ∷ (batch_call opened [] []).number
    ∷ (batch_call lent [] []).number ∷ [] gives 0 ∷ 2 ∷ 0 ∷ 1 ∷ [])
    -- questions: 1, 3 for an unused account and for a number outside the table, 0
    ∷ ((balance_call lent (pos 1)).number ∷ (balance_call posted (pos 2)).number ∷ (balance_call posted (pos 3)).number
    ∷ (balance_call posted (negsuc 0)).number ∷ (balance_call posted (pos 1)).number ∷ (topup_due_call posted (pos 1)).number ∷ []
    gives 1 ∷ 3 ∷ 3 ∷ 3 ∷ 0 ∷ 0 ∷ [])
    ∷ ((balance_call posted (pos 1)).value amounts-to pos 700)
    ∷ ((balance_call damaged (pos 1)).value amounts-to pos 0)
    -- row parts: ten words, or none
    ∷ (length (row_call posted (pos 1)) ∷ length (row_call posted (pos 2)) ∷ length (row_call posted (pos 3)) ∷ length (row_call posted (pos 0)) ∷ length (row_call damaged (pos 2)) ∷ []
    gives 10 ∷ 10 ∷ 0 ∷ 0 ∷ 0 ∷ [])
    ∷ []

pub record CallExamples : Type 0 where
  pub numbers : map (λ c. c.got) cases ≡ map (λ c. c.want) cases
  -- the answers in order, and the words past them as they were
  pub answers : (batch_call opened day (replicate 22 (pos 7))).answers
      ≡ pos 0 ∷ pos 0 ∷ pos 0 ∷ pos 0 ∷ pos 0
      ∷ pos 0 ∷ pos 1 ∷ pos 1 ∷ pos 0 ∷ pos 0
      ∷ pos 2 ∷ pos 0 ∷ pos 0 ∷ pos 0 ∷ pos 0
      ∷ pos 0 ∷ pos 2 ∷ pos 1 ∷ pos 0 ∷ pos 0
      ∷ pos 7 ∷ pos 7 ∷ []
  pub refused : (event_call opened (words 3 3 100 2) six).answers ≡ pos 3 ∷ pos 0 ∷ pos 0 ∷ pos 0 ∷ pos 0 ∷ pos 7 ∷ []
  pub row : row_call posted (pos 2) ≡ pos 4 ∷ pos 1 ∷ pos 1 ∷ pos 400 ∷ pos 0 ∷ pos 1 ∷ pos 0 ∷ pos 0 ∷ pos 0 ∷ pos 0 ∷ []

pub call-examples : CallExamples
unfolding computing computing_calls cases
call-examples = record { numbers = refl; answers = refl; refused = refl; row = refl }
