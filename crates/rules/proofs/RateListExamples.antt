-- Rate lists at their limits (document 02, No. 1), computed from the definitions: event 10, answer 15, the rate of a passage day, a sound book's
-- lists.
use mathlib.Core.Path.{◌≡◌, refl}
use Prim.Native.Nat.{ℕ, ◌+◌}
use mathlib.Core.List.{List, [], ◌∷◌, ◌++◌, map}
use lib.ListN.{length, replicate, set}
use lib.IntN.{ℤ, pos, negsuc}
use Rattle.rules.specs.RateLists.{RateList}
use Rattle.rules.specs.Book.{Instruction, Book, row}
use Rattle.rules.specs.Posting.{book_after}
use Rattle.rules.specs.Tables.{Tables, tables_at, book_of, tables_of, sound_tables}
use Rattle.rules.proofs.Computing.{computing}
use Rattle.rules.proofs.Examples.{Case, ◌gives◌, event, ticks, small, numbers}
use Rattle.rules.proofs.Borders.{◌are◌}

-- ---- how cases are written

-- event 10: a list from a day on, its rates one after the other from a lowest one
abbrev list_from : ℕ → ℕ → Instruction
list_from day n = record { kind = 10; account = 0; a = day; b = n; c = n + 1; d = n + 2; e = n + 3; f = n + 4; g = n + 5 }

-- the same with one rate given, the last
abbrev last_rate : ℕ → Instruction
last_rate n = record { kind = 10; account = 0; a = 9; b = 1; c = 1; d = 1; e = 1; f = 1; g = n }

-- event 10 with an account
abbrev of_account : ℕ → Instruction → Instruction
of_account n e = record { kind = e.kind; account = n; a = e.a; b = e.b; c = e.c; d = e.d; e = e.e; f = e.f; g = e.g }

-- a toll on account 1 of a passage day: two axles, 60 inches, plate
abbrev passage_of : ℕ → ℕ → Instruction
passage_of number day = event 2 1 number day 2 60 2

-- opened on day 30; lists from day 40 and from day 50 on are added at once; seven tolls on day 60
abbrev rated : Book
rated =
    book_after (small 30)
    (event 1 1 0 0 0 0 0 ∷ list_from 40 700 ∷ list_from 50 800 ∷ ticks 30
    ++ passage_of 1 1 ∷ passage_of 2 29 ∷ passage_of 3 39 ∷ passage_of 4 40 ∷ passage_of 5 49 ∷ passage_of 6 50 ∷ passage_of 7 60 ∷ [])

-- seven lists more, and an eighth
abbrev too_many : List Instruction
too_many = map (λ d. list_from d 1) (2 ∷ 3 ∷ 4 ∷ 5 ∷ 6 ∷ 7 ∷ 36_525 ∷ 36_525 ∷ [])

-- ---- a book with two lists after the first, and one word of its header changed

-- event 10: a list from a day on, its last rate the highest
abbrev highest_from : ℕ → Instruction
highest_from day = record { kind = 10; account = 0; a = day; b = 1; c = 1; d = 1; e = 1; f = 1; g = 1_000_000 }

abbrev listed : Tables
listed = tables_of (book_after (small 1) (highest_from 5 ∷ highest_from 9 ∷ []))

abbrev word : ℕ → ℤ → Tables
word k z = tables_at (set listed.header k z) listed.accounts listed.journal []

pub cases : List Case
cases =
    -- the rate of the passage day: the last list begun by then, the first for every earlier day
    (map (λ r. r.amount) rated.rows gives 500 ∷ 500 ∷ 500 ∷ 701 ∷ 701 ∷ 801 ∷ 801 ∷ [])
    -- a list added later rates no posted toll again
    ∷ ((row (book_after rated (list_from 55 900 ∷ [])) 7).amount ∷ length (book_after rated (list_from 55 900 ∷ [])).lists ∷ [] gives 801 ∷ 4 ∷ [])
    -- 2: account, first day and rates of event 10; f and g of another event
    ∷ (numbers (small 1)
    (of_account 1 (list_from 9 1) ∷ list_from 0 1 ∷ list_from 36_526 1 ∷ list_from 9 0 ∷ list_from 9 1_000_001 ∷ last_rate 0 ∷ last_rate 1_000_001 ∷ last_rate 1_000_000 ∷ [])
    gives 2 ∷ 2 ∷ 2 ∷ 2 ∷ 2 ∷ 2 ∷ 2 ∷ 0 ∷ [])
    ∷ (numbers (small 1)
    (record { kind = 1; account = 1; a = 0; b = 0; c = 0; d = 0; e = 0; f = 1; g = 0 }
    ∷ record { kind = 1; account = 1; a = 0; b = 0; c = 0; d = 0; e = 0; f = 0; g = 1 }
    ∷ record { kind = 2; account = 1; a = 1; b = 1; c = 2; d = 60; e = 2; f = 1; g = 0 } ∷ [])
    gives 2 ∷ 2 ∷ 2 ∷ [])
    -- 15: an equal day, an earlier one, a ninth list; after 2
    ∷ (numbers (small 5) (list_from 5 1 ∷ list_from 4 1 ∷ list_from 6 1 ∷ list_from 6 1 ∷ list_from 6 0 ∷ list_from 7 1 ∷ []) gives 15 ∷ 15 ∷ 0 ∷ 15 ∷ 2 ∷ 0 ∷ [])
    ∷ (numbers (small 1) too_many gives replicate 7 0 ++ 15 ∷ [])
    ∷ (numbers (small 1) (map (λ d. list_from d 1) (2 ∷ 3 ∷ 4 ∷ 5 ∷ 6 ∷ 7 ∷ 8 ∷ 9 ∷ [])) gives replicate 7 0 ++ 15 ∷ [])
    -- on the last day, and with a first day that is past
    ∷ (numbers (small 36_524) (ticks 1 ++ list_from 36_525 1 ∷ []) gives 0 ∷ 0 ∷ [])
    ∷ (numbers (small 5) (ticks 9 ++ list_from 6 1 ∷ []) gives replicate 9 0 ++ 0 ∷ [])
    -- a sound book's lists: the first's first day, order, ranges, words of unused ones
    ∷ (map sound_tables (listed ∷ word 12 (pos 0) ∷ word 12 (pos 4) ∷ word 12 (pos 5) ∷ word 13 (pos 9) ∷ word 20 (pos 5) ∷ word 20 (pos 36_525) ∷ word 20 (pos 36_526) ∷ [])
    are 1 ∷ 0 ∷ 1 ∷ 0 ∷ 0 ∷ 0 ∷ 1 ∷ 0 ∷ [])
    ∷ (map sound_tables (word 13 (pos 0) ∷ word 20 (pos 0) ∷ word 14 (pos 0) ∷ word 26 (pos 1_000_001) ∷ word 26 (negsuc 0) ∷ word 27 (pos 10) ∷ word 28 (pos 1) ∷ word 61 (pos 1) ∷ [])
    are replicate 8 0)
    -- event 10 writes a to g in the place of a list; the header whole is below
    ∷ (length (book_of listed).lists ∷ map (λ (l : RateList). l.first_day) (book_of listed).lists gives 3 ∷ 1 ∷ 5 ∷ 9 ∷ [])
    ∷ []

pub record RateListExamples : Type 0 where
  pub numbers : map (λ c. c.got) cases ≡ map (λ c. c.want) cases
  pub header : listed.header
      ≡ pos 1 ∷ pos 0 ∷ pos 30 ∷ pos 500 ∷ pos 2500 ∷ pos 3000 ∷ pos 250 ∷ pos 500 ∷ pos 600 ∷ pos 900 ∷ pos 1200 ∷ pos 1600 ∷ pos 1
      ∷ pos 5 ∷ pos 1 ∷ pos 1 ∷ pos 1 ∷ pos 1 ∷ pos 1 ∷ pos 1_000_000
      ∷ pos 9 ∷ pos 1 ∷ pos 1 ∷ pos 1 ∷ pos 1 ∷ pos 1 ∷ pos 1_000_000
      ∷ replicate 35 (pos 0)

pub rate-list-examples : RateListExamples
unfolding computing cases
rate-list-examples = record { numbers = refl; header = refl }
