-- What a batch keeps of the journal from event to event: the trees of passage numbers, and the slots of the accounts.
use Rattle.std.specs.Prelude.{ℕ, ◌≡◌, Bool, true, false, ◌&&◌, ◌||◌, List, ltb, ℤ, replicate}
use Rattle.records.specs.Codes.{event_decision, event_tick}
use Rattle.records.specs.Encoding.{rows_of}
use Rattle.lists.specs.Tests.{◌is◌}
use Rattle.records.specs.Limits.{most_rows, slot_count}
use Rattle.rules.specs.Book.{Instruction}
use Rattle.rules.specs.Tables.{Tables, rows_used}
use Rattle.sound_passages.specs.Trees.{passages_differ, TreesOf}
use Rattle.account_sums.specs.Tallies.{Countable}
use Rattle.batch_index.specs.declared.slots.Slot.{Slot}
use Rattle.batch_index.specs.declared.Index.{Index}
use Rattle.batch_index.specs.Slots.{no_slot, slot_at, SlotsHold, MoneysUpTo, SlotsOf}

-- the index of the used rows of the tables
pub record Indexed (t : Tables) (x : Index) : Type 0 where
  pub trees : TreesOf most_rows t.journal x.cells (rows_used t)
  pub slots-of : SlotsOf t.journal (rows_used t) x.slots.by_account

-- after the event e, unused money may have paid what was held before it: a tick ends holds, and a decision one
unfoldable pub may_pay_held : Instruction → List Slot → Bool
may_pay_held e slots = e.kind is event_tick || e.kind is event_decision && ltb 0 (slot_at slots e.account).money

-- the index of the first n rows, of tables on which the event e was posted
pub record IndexedBefore (t : Tables) (n : ℕ) (e : Instruction) (x : Index) : Type 0 where
  pub trees : TreesOf most_rows t.journal x.cells n
  pub hold : SlotsHold t.journal n 0 x.slots.by_account
  pub moneys : may_pay_held e x.slots.by_account ≡ false → MoneysUpTo (rows_of t.journal (rows_used t)) n x.slots.by_account

-- of no rows
pub record Empty (x : Index) : Type 0 where
  pub no_cell : x.cells ≡ replicate 32768 0
  pub no_slots : x.slots.by_account ≡ replicate slot_count no_slot

-- a journal whose used rows can be indexed
pub record Indexable (j : List ℤ) (used : ℕ) : Type 0 where
  pub rows : Countable j used
  pub differ : passages_differ (rows_of j used) ≡ true
