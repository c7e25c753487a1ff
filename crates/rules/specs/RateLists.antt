-- The rate lists of a book (document 02, No. 1), in order of their first days.
use Rattle.std.specs.Prelude.{Bool, cond, ◌&&◌, ℕ, ◌-◌, List, [], ◌∷◌, length, get_or, leb, ltb}
use Rattle.lists.specs.Tests.{◌from◌to◌}
use Rattle.lists.specs.Lists.{every}
use Rattle.records.specs.declared.Instruction.{Instruction}
use Rattle.records.specs.Limits.{final_day, most_lists}
use Rattle.rules.specs.Schedule.{Rates, rates_fit}

-- "rate lists, each with its first day"
pub record RateList : Type 0 where
  pub first_day : ℕ
  pub rates : Rates

-- "unused ones .. all 0": the list where there is none
abbrev pub no_list : RateList
no_list = record { first_day = 0; rates = record { tag1 = 0; plate1 = 0; tag2 = 0; plate2 = 0; tag3 = 0; plate3 = 0 } }

-- list n, counted from 1; all 0 where there is none
abbrev pub list_no : List RateList → ℕ → RateList
list_no ls n = get_or (no_list ∷ ls) n no_list

-- ---- the list in force

-- the last of the lists that has begun by the day, l where none has
unfoldable pub last_begun : ℕ → RateList → List RateList → RateList
last_begun day l [] = l
last_begun day l (m ∷ ms) = last_begun day (cond (leb m.first_day day) m l) ms

-- "the list in force on its passage day"; "The first list covers every earlier day"
unfoldable pub in_force : List RateList → ℕ → RateList
in_force ls day = last_begun day (list_no ls 1) ls

-- ---- event 10: "adds one list .. for its first day (1 to 36,525) and six rates"

-- its words a to g
abbrev pub list_of : Instruction → RateList
list_of e = record { first_day = e.a; rates = record { tag1 = e.b; plate1 = e.c; tag2 = e.d; plate2 = e.e; tag3 = e.f; plate3 = e.g } }

-- the last list's first day
abbrev pub last_first_day : List RateList → ℕ
last_first_day ls = (list_no ls (length ls)).first_day

-- ---- ranges

-- "its first day (1 to 36,525) and six rates"
unfoldable pub list_in_range : RateList → Bool
list_in_range l = l.first_day from 1 to final_day && rates_fit l.rates

-- list number n, "in strictly rising order of day": above the one before it
unfoldable pub list_fits : List RateList → ℕ → RateList → Bool
list_fits ls n l = list_in_range l && ltb (list_no ls (n - 1)).first_day l.first_day

-- "A book holds up to eight rate lists", the opening's among them; "a sound book has its lists in strictly rising order of day"
unfoldable pub lists_fit : List RateList → Bool
lists_fit ls = length ls from 1 to most_lists && every (list_fits ls) ls
