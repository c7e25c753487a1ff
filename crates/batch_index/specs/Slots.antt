-- The slots that a batch keeps of the journal, one for each account number: from which row on a source and a debit of it can have something
-- left, and its unused money.
use Rattle.std.specs.Prelude.{ℕ, ◌*◌, ◌≤◌, ◌<◌, ◌≡◌, cond, ◌&&◌, List, ℤ, length, get_or, drop}
use Rattle.records.specs.Encoding.{row_at, rows_of}
use Rattle.lists.specs.Tests.{◌is◌}
use Rattle.lists.specs.Lists.{only}
use Rattle.records.specs.Limits.{highest_refund, slot_count}
use Rattle.rules.specs.Rows.{Row, Test, source, debit, remaining}
use Rattle.rules.specs.Settlement.{money}
use Rattle.batch_index.specs.declared.slots.Side.{Side}
use Rattle.batch_index.specs.declared.slots.Side.TheVariants.{Sources, Debits}
use Rattle.batch_index.specs.declared.slots.Slot.{Slot}
use Rattle.batch_index.specs.Money.{money_after}

-- ---- the two sides

-- a row of the side
unfoldable pub on_side : Side → Test
on_side Sources r = source r
on_side Debits r = debit r

-- a row of account a on side s: source_of a and debit_of a
unfoldable pub of_side : Side → ℕ → Test
of_side s a r = r.account is a && on_side s r

-- a row's side
unfoldable pub side_of : Row → Side
side_of r = cond (source r) Sources Debits

-- ---- the slots

-- the first row of a side
abbrev pub first_of : Side → Slot → ℕ
first_of Sources x = x.source
first_of Debits x = x.debit

-- another first row of a side
abbrev pub with_first : Side → ℕ → Slot → Slot
with_first Sources v x = record { source = v; debit = x.debit; money = x.money }
with_first Debits v x = record { source = x.source; debit = v; money = x.money }

-- of no rows
abbrev pub no_slot : Slot
no_slot = record { source = 0; debit = 0; money = 0 }

-- an account's slot, that of no rows where it has none
abbrev pub slot_at : List Slot → ℕ → Slot
slot_at slots a = get_or slots a no_slot

-- from row i up to the first row of a side nothing is left on it; no money is above what n rows can have
pub record SlotsHold (j : List ℤ) (n i : ℕ) (slots : List Slot) : Type 0 where
  pub sized : length slots ≡ slot_count
  pub first-in : (s : Side) (a : ℕ) → a < slot_count → first_of s (slot_at slots a) ≤ n
  pub passed : (s : Side) (a : ℕ) → a < slot_count → (k : ℕ) → i ≤ k → k < first_of s (slot_at slots a) →
      only (of_side s a) remaining (row_at j k) ≡ 0
  pub bounded : (a : ℕ) → a < slot_count → (slot_at slots a).money ≤ n * highest_refund

-- the money of each account is its unused money in these rows
abbrev pub MoneysOf : List Row → List Slot → Type 0
MoneysOf rows slots = (a : ℕ) → a < slot_count → (slot_at slots a).money ≡ money a rows

-- it is, once the rows from row i on are added
abbrev pub MoneysUpTo : List Row → ℕ → List Slot → Type 0
MoneysUpTo rows i slots = (a : ℕ) → a < slot_count → money_after a (slot_at slots a).money (drop i rows) ≡ money a rows

-- from row i up to k no row passes the test with something left
pub record NextOpen (p : Test) (j : List ℤ) (used i k : ℕ) : Type 0 where
  pub within : k ≤ used
  pub passed : (m : ℕ) → i ≤ m → m < k → only p remaining (row_at j m) ≡ 0

-- the slots of the first n rows of a journal
pub record SlotsOf (j : List ℤ) (n : ℕ) (slots : List Slot) : Type 0 where
  pub hold : SlotsHold j n 0 slots
  pub moneys : MoneysOf (rows_of j n) slots
