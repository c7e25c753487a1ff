-- The index of sound tables: it can be made, and what it has for an event is what the tables have.
use mathlib.Core.Path.{◌≡◌, refl, sym, ◌∙◌}
use mathlib.Core.Bool.{Bool, true, false, not, true≢false}
use Prim.Native.Nat.{ℕ, ◌+◌, ◌≤◌, ◌<◌}
use native.Mathlib.Omega.{arith}
use native.Mathlib.Decide.{ℕ_discrete, dec_lt}
use mathlib.Core.List.{List}
use lib.IntN.{ℤ}
use lib.ListN.{length, get_or-eq_default}
use Rattle.std.specs.Prelude.{Option, Some, None, is_some}
use Rattle.records.specs.Codes.{event_toll, event_topup_result}
use Rattle.records.specs.Encoding.{row_at, rows_of}
use Rattle.lists.specs.Lists.{exists}
use Rattle.lists.proofs.ListLaws.{every-all}
use Rattle.records.specs.Limits.{most_rows, slot_count}
use Rattle.rules.specs.Rows.{kind_toll, blank}
use Rattle.rules.specs.Settlement.{money}
use Rattle.rules.specs.Book.{Instruction, topup_due}
use Rattle.rules.specs.Tables.{Tables, rows_used, book_of, sound_tables}
use Rattle.rules.proofs.TableLaws.{sound-book, sound-rows}
use Rattle.sound_passages.specs.Trees.{passages_differ, TreesOf, CellFor, Inserted}
use Rattle.sound_passages.proofs.TreeLaws.{trees-none}
use Rattle.tick_base.proofs.MidwayLaws.{sound-midway, midway-countable}
use Rattle.event_lookups.specs.Lookups.{NothingLeft, LooksUp}
use Rattle.event_lookups.proofs.PassageLaws.{toll_of, other-kind, other-passage, passage-found, passage-absent}
use Rattle.batch_index.specs.declared.slots.Side.{Side}
use Rattle.batch_index.specs.declared.slots.Side.TheVariants.{Sources, Debits}
use Rattle.batch_index.specs.declared.slots.Slot.{Slot}
use Rattle.batch_index.specs.declared.Index.{Index}
use Rattle.batch_index.specs.Slots.{of_side, first_of, no_slot, slot_at, SlotsHold, SlotsOf}
use Rattle.batch_index.specs.Index.{Indexed, Empty, Indexable}
use Rattle.batch_index.proofs.SideLaws.{side-sources, side-debits}
use Rattle.batch_index.proofs.SlotLaws.{money-outside}

-- ---- the index is made

pub empty-trees : (j : List ℤ) (x : Index) → Empty x → TreesOf most_rows j x.cells 0
empty-trees j x e = rw e.no_cell (trees-none most_rows j 32768 refl (omega arith) (omega arith))

-- in tables whose passage numbers differ a row is always inserted
pub inserted-trees : (j : List ℤ) (cells : List ℕ) (n used : ℕ) (b : Bool) → n < used → passages_differ (rows_of j used) ≡ true → Inserted most_rows j cells n b → TreesOf most_rows j cells (n + 1)
inserted-trees j cells n used true l d p = p.good refl
inserted-trees j cells n used false l d p = absurd (true≢false (sym d ∙ p.bad refl used l))

pub sound-indexable : (t : Tables) → sound_tables t ≡ true → Indexable t.journal (rows_used t)
sound-indexable t s = record { rows = midway-countable (book_of t).day t (sound-midway t s); differ = rw (sound-rows t s) at differ }
  where
    differ : passages_differ (book_of t).rows ≡ true
    differ = unfold passages_differ in (every-all _ 1 (book_of t).rows blank (λ k n q h. ((sound-book t s).near.shape k h).passage))

pub index-made : (t : Tables) (x : Index) (used : ℕ) → used ≡ rows_used t → TreesOf most_rows t.journal x.cells used → SlotsOf t.journal used x.slots.by_account → Indexed t x
index-made t x used u p q = record { trees = rw u at p; slots-of = rw u at q }

-- ---- a passage number

-- of a test and its negation
pub flag-of_not : (b d : Bool) → b ≡ not d → d ≡ not b
flag-of_not b true e = rw e refl
flag-of_not b false e = rw e refl

pub cell-for-duplicate : (t : Tables) → sound_tables t ≡ true → (cells : List ℕ) (used x : ℕ) (r : Option ℕ) → used ≡ rows_used t → CellFor most_rows t.journal cells used x r
    → not (is_some r) ≡ exists (toll_of x) (book_of t).rows
cell-for-duplicate t s cells used x (Some c) u p =
    rw (sound-rows t s, ← u)
    (passage-absent t.journal x used (λ k l. elim (ℕ_discrete (row_at t.journal k).kind kind_toll) [
      | yes q ↦ other-passage x (row_at t.journal k) (λ w. p.none k l q w)
      | no q ↦ other-kind x (row_at t.journal k) q
    ]))
cell-for-duplicate t s cells used x None u p = rw (sound-rows t s, ← u) (passage-found t.journal x used p.0 p.1.early p.1.toll p.1.passage)

-- ---- the slot of an account

-- the first row of a side, or row 0 where the account has no slot
pub record FirstRow (j : List ℤ) (n : ℕ) (s : Side) (a x : ℕ) : Type 0 where
  pub within : x ≤ n
  pub passed : NothingLeft (of_side s a) j x

-- an account number past the slots has that of no rows
outside : (slots : List Slot) → length slots ≡ slot_count → (a : ℕ) → slot_count ≤ a → slot_at slots a ≡ no_slot
outside slots z a h = get_or-eq_default slots no_slot {n = a} (omega (arith, z))

none-first : (s : Side) → first_of s no_slot ≡ 0
none-first Sources = refl
none-first Debits = refl

pub first-row : (j : List ℤ) (n : ℕ) (slots : List Slot) → SlotsHold j n 0 slots → (s : Side) (a : ℕ) → FirstRow j n s a (first_of s (slot_at slots a))
first-row j n slots t s a = go (dec_lt a slot_count)
  where
    go : Dec (a < slot_count) → FirstRow j n s a (first_of s (slot_at slots a))
    go (yes b) = record { within = t.first-in s a b; passed = λ k l. t.passed s a b k (omega arith) l }
    go (no b) =
        rw (outside slots t.sized a (omega arith), none-first s)
        (record { within = omega arith; passed = λ k l. absurd (omega arith) })

pub looks-up-by : (t : Tables) (i : Index) → Indexed t i → (e : Instruction) (b d : Bool) (x : Slot) → x ≡ slot_at i.slots.by_account e.account
    → (e.kind ≡ event_toll → b ≡ exists (toll_of e.a) (book_of t).rows) → (e.kind ≡ event_topup_result → d ≡ topup_due (book_of t) e.account)
    → LooksUp t e (record { duplicate = b; due = d; source = x.source; debit = x.debit })
looks-up-by t i w e b d x p f g =
    let m = first-row t.journal (rows_used t) i.slots.by_account w.slots-of.hold Sources e.account in
    let n = first-row t.journal (rows_used t) i.slots.by_account w.slots-of.hold Debits e.account in
    rw p
    (record {
      duplicate = f;
      due = g;
      source_in = m.within;
      debit-in = n.within;
      sources = rw (side-sources e.account) at m.passed;
      debits = rw (side-debits e.account) at n.passed;
    })

-- ---- a top-up

-- the money of a slot is the account's unused money, and an account number without a slot has none
pub slot-money : (t : Tables) → sound_tables t ≡ true → (slots : List Slot) → SlotsOf t.journal (rows_used t) slots → (n : ℕ)
    → (slot_at slots n).money ≡ money n (book_of t).rows
slot-money t s slots w n = rw (sound-rows t s) (go (dec_lt n slot_count))
  where
    go : Dec (n < slot_count) → (slot_at slots n).money ≡ money n (rows_of t.journal (rows_used t))
    go (yes b) = w.moneys n b
    go (no b) =
        rw (outside slots w.hold.sized n (omega arith))
        (sym (money-outside t.journal (rows_used t) (sound-indexable t s).rows n (omega arith)))
