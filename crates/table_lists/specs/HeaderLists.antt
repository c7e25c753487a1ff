-- What a reader of a sound header knows of its rate lists, and what is found there for a day.
use Rattle.std.specs.Prelude.{◌≡◌, Bool, true, ◌||◌, ℕ, suc, ◌≤◌, ◌<◌, ltb, List, ℤ, length}
use Rattle.lists.specs.Tests.{◌is◌}
use Rattle.records.specs.Layout.{header_width, later_lists}
use Rattle.rules.specs.RateLists.{list_no, in_force, lists_fit}
use Rattle.rules.specs.Tables.{later_list_at, lists_used, lists_in}

-- the lists are those of a sound book, and no unused one has a first day
pub record ListsStand (h : List ℤ) : Type 0 where
  pub wide : length h ≡ header_width
  pub fit : lists_fit (lists_in h) ≡ true
  pub rest : (k : ℕ) → lists_used h ≤ k → k < later_lists → (later_list_at h k).first_day ≡ 0

-- on the day, the list in force is the one after n others
pub record OnDay (h : List ℤ) (day n : ℕ) : Type 0 where
  pub within : n ≤ lists_used h
  pub list : in_force (lists_in h) day ≡ list_no (lists_in h) (suc n)

-- list i after the first is unused, or begins after the day
abbrev pub unbegun : List ℤ → ℕ → ℕ → Bool
unbegun h day i = (later_list_at h i).first_day is 0 || ltb day (later_list_at h i).first_day
