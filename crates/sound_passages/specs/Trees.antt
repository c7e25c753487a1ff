-- Digital search trees of tolls in one array, of four cells for each row that it has space for: the first half of the cells are roots, and
-- cells 2 space + 2 r and the next are the two branches of row r, counted from 0. A cell holds a row's number, counted from 1, and 0 for
-- none.
use Rattle.std.specs.Prelude.{ℕ, ◌+◌, ◌*◌, ◌/◌, ◌%◌, ◌≤◌, ◌<◌, ◌≡◌, Bool, true, false, List, ℤ, length, get_or, Option, Some, None, Result, Ok, Err}
use Rattle.lists.specs.Lists.{every}
use Rattle.records.specs.Encoding.{row_at, rows_of}
use Rattle.records.specs.Limits.{most_rows}
use Rattle.rules.specs.Rows.{Row, kind_toll}
use Rattle.rules.specs.Soundness.{passage_once}

-- "passage numbers differ"
unfoldable pub passages_differ : List Row → Bool
passages_differ rows = every (λ n r. passage_once rows r) rows

-- a passage number's 32 mixed bits: the first are the root, the others the way down, the lowest first
unfoldable pub mix_of : ℕ → ℕ
mix_of p = p % 1_073_741_824 * 2_654_435_769 % 4_294_967_296

-- row j is a toll, and one of passage x
abbrev pub IsToll : List ℤ → ℕ → Type 0
IsToll t j = (row_at t j).kind ≡ kind_toll

abbrev pub HasPassage : List ℤ → ℕ → ℕ → Type 0
HasPassage t j x = (row_at t j).reference ≡ x

-- from cell c, by the bits of y, down to row j
pub data Leads (space : ℕ) (cells : List ℕ) (j : ℕ) : ℕ → ℕ → Type 0 where
  here : {y c : ℕ} → get_or cells c 0 ≡ j + 1 → Leads space cells j y c
  next : {y c : ℕ} (r : ℕ) → get_or cells c 0 ≡ r + 1 → Leads space cells j (y / 2) (2 * space + 2 * r + y % 2) → Leads space cells j y c

-- the root, of 2 space, where the way of mixed bits y starts
abbrev pub root_of : ℕ → ℕ → ℕ
root_of space y = y * space / 2_147_483_648

abbrev pub Kept : ℕ → List ℕ → ℕ → ℕ → Type 0
Kept space cells j x = Leads space cells j (mix_of x) (root_of space (mix_of x))

-- what holds after the first n rows
pub record TreesOf (space : ℕ) (t : List ℤ) (cells : List ℕ) (n : ℕ) : Type 0 where
  pub some : 0 < space
  pub few : space ≤ most_rows
  pub size : length cells ≡ 4 * space
  pub tolls : (c j : ℕ) → get_or cells c 0 ≡ j + 1 → (j < n) × IsToll t j × (c < 2 * space + 2 * j)
  pub kept : (j : ℕ) → j < n → IsToll t j → Kept space cells j (row_at t j).reference
  pub clean : (j k : ℕ) → j < k → k < n → IsToll t j → IsToll t k → HasPassage t j (row_at t k).reference → ⊥

-- c is a free cell on the way of passage x, which no toll has
pub record FreeCell (space : ℕ) (t : List ℤ) (cells : List ℕ) (n x c : ℕ) : Type 0 where
  pub low : c < 2 * space + 2 * n
  pub free : get_or cells c 0 ≡ 0
  pub none : (j : ℕ) → j < n → IsToll t j → HasPassage t j x → ⊥
  pub way : (u : List ℕ) → ((k v : ℕ) → get_or cells k 0 ≡ v + 1 → get_or u k 0 ≡ v + 1) → get_or u c 0 ≡ n + 1 → Kept space u n x

-- toll j has passage x
pub record TakenBy (t : List ℤ) (n x j : ℕ) : Type 0 where
  pub early : j < n
  pub toll : IsToll t j
  pub passage : HasPassage t j x

-- where passage x goes: a free cell, or else the toll that has it
abbrev pub Sought : ℕ → List ℤ → List ℕ → ℕ → ℕ → Result ℕ ℕ → Type 0
Sought space t cells n x (Ok c) = FreeCell space t cells n x c
Sought space t cells n x (Err j) = TakenBy t n x j

-- the same, and none in the toll's place
abbrev pub CellFor : ℕ → List ℤ → List ℕ → ℕ → ℕ → Option ℕ → Type 0
CellFor space t cells n x None = (j : ℕ) × TakenBy t n x j
CellFor space t cells n x (Some c) = FreeCell space t cells n x c

-- what b says of row n, inserted
pub record Inserted (space : ℕ) (t : List ℤ) (cells : List ℕ) (n : ℕ) (r : Bool) : Type 0 where
  pub good : r ≡ true → TreesOf space t cells (n + 1)
  pub bad : r ≡ false → (m : ℕ) → n < m → passages_differ (rows_of t m) ≡ false
