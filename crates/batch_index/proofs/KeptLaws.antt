-- Every event keeps what the index knows: it indexes the same rows of the tables after it.
use mathlib.Core.Path.{◌≡◌, sym, ap, ◌∙◌}
use mathlib.Core.Logic.{◌≢◌}
use mathlib.Core.Bool.{Bool, true, false, cond, true≢false}
use Prim.Native.Nat.{ℕ, ◌≤◌, ◌<◌}
use native.Mathlib.Omega.{arith}
use mathlib.Core.List.{List, []}
use lib.Dec.{ltb}
use lib.IntN.{ℤ}
use lib.ListN.{length, get_or}
use borrow.Author.Tests.{eq-eqb, ltb-false}
use Rattle.records.specs.Codes.{event_decision, event_tick}
use Rattle.records.specs.Encoding.{row_at, rows_of}
use Rattle.lists.specs.Tests.{◌is◌}
use Rattle.lists.specs.Lists.{only}
use Rattle.lists.proofs.TestLaws.{and_then, or_left, or_right}
use Rattle.lists.proofs.ListLaws.{tabulate-at}
use Rattle.records.specs.Limits.{most_rows}
use Rattle.rules.specs.Rows.{Row, blank, remaining}
use Rattle.rules.specs.Settlement.{money}
use Rattle.rules.specs.Book.{Instruction, Answer, Book}
use Rattle.rules.specs.Soundness.{sound}
use Rattle.rules.specs.Posting.{post}
use Rattle.rules.specs.Tables.{Tables, tables_with, rows_used, book_of, tables_of, sound_tables}
use Rattle.rules.proofs.SoundnessLaws.{sound-facts, facts-sound}
use Rattle.rules.specs.SoundFacts.{Near}
use Rattle.rules.proofs.HolidayTables.{sound-without}
use Rattle.rules.proofs.TableLaws.{sound-book, sound-rows, length-sound-rows, used-tables_of, book_of-tables_of, sound_tables-tables_of}
use Rattle.preservation.proofs.SoundKept.{post-keeps-sound}
use Rattle.preservation.proofs.RowsKept.{RowKept, post-keeps-rows}
use Rattle.posting.specs.Posts.{Posts}
use Rattle.sound_passages.specs.Trees.{TreesOf}
use Rattle.batch_index.specs.declared.slots.Side.{Side}
use Rattle.batch_index.specs.declared.slots.Side.TheVariants.{Sources, Debits}
use Rattle.batch_index.specs.declared.slots.Slot.{Slot}
use Rattle.batch_index.specs.declared.Index.{Index}
use Rattle.batch_index.specs.Slots.{on_side, of_side, slot_at, SlotsHold, MoneysUpTo}
use Rattle.batch_index.specs.Index.{may_pay_held, Indexed, IndexedBefore}
use Rattle.batch_index.proofs.IndexLaws.{slot-money}
use Rattle.batch_index.proofs.MoneyLaws.{post-money}

-- ---- a row

module _ (s : Side) (a : ℕ) (x y : Row) (k : RowKept x y) where
  side-kept : of_side s a y ≡ of_side s a x
  unfolding of_side
  side-kept = rw (go s, k.account)
    where
      go : (s : Side) → on_side s y ≡ on_side s x
      go Sources = unfold on_side in rw k.kind
      go Debits = unfold on_side in rw k.kind

  remaining-kept : only (of_side s a) remaining y ≤ only (of_side s a) remaining x
  unfolding only
  remaining-kept = rw side-kept (go (of_side s a x) k.left)
    where
      go : (b : Bool) → remaining y ≤ remaining x → cond b (remaining y) 0 ≤ cond b (remaining x) 0
      go true h = h
      go false h = omega arith

-- ---- the index of n rows, each kept

module _ (j i : List ℤ) (n : ℕ) (kept : (k : ℕ) → k < n → RowKept (row_at j k) (row_at i k)) where
  trees-kept : (cells : List ℕ) → TreesOf most_rows j cells n → TreesOf most_rows i cells n
  trees-kept cells g = record {
    some = g.some;
    few = g.few;
    size = g.size;
    tolls = λ c k e. let p = g.tolls c k e in (p.0, (kept k p.0).kind ∙ p.1, p.2);
    kept = λ k h e. rw (kept k h).reference (g.kept k h (sym (kept k h).kind ∙ e));
    clean = λ k m l h a b e. g.clean k m l h (sym (kept k (omega arith)).kind ∙ a) (sym (kept m h).kind ∙ b) (sym (kept k (omega arith)).reference ∙ e ∙ (kept m h).reference);
  }

  hold-kept : (slots : List Slot) → SlotsHold j n 0 slots → SlotsHold i n 0 slots
  hold-kept slots t = record {
    sized = t.sized;
    first-in = t.first-in;
    passed = λ s a b k l q.
        omega (arith, t.passed s a b k l q, remaining-kept s a (row_at j k) (row_at i k) (kept k (omega (arith, t.first-in s a b))));
    bounded = t.bounded;
  }

-- ---- the tables of a sound book

module _ (b : Book) (s : sound b ≡ true) where
  near : Near b.day b
  near = (sound-facts b s).near

  written-used : rows_used (tables_of b) ≡ length b.rows
  written-used = used-tables_of b near

  written_row : (k : ℕ) → k < length b.rows → get_or b.rows k blank ≡ row_at (tables_of b).journal k
  written_row k h =
      let e : b.rows ≡ rows_of (tables_of b).journal (rows_used (tables_of b)) =
      sym (ap (λ (c : Book). c.rows) (book_of-tables_of b near)) ∙ sound-rows (tables_of b) (sound_tables-tables_of b s) in
      ap (λ (rows : List Row). get_or rows k blank) e ∙ tabulate-at (row_at (tables_of b).journal) (rows_used (tables_of b)) k blank (rw written-used h)

-- ---- the tables after an event

module _ (t : Tables) (s : sound_tables t ≡ true) (e : Instruction) where
  abbrev pub after : Book
  after = (post (book_of t) e).book

  after-sound : sound after ≡ true
  after-sound = post-keeps-sound (book_of t) e (facts-sound (book_of t) (sound-book t s))

  -- no row goes away
  pub used-posted : rows_used t ≤ rows_used (tables_of after)
  used-posted = omega (arith, length-sound-rows t s, (post-keeps-rows (book_of t) e).longer, written-used after after-sound)

  row-posted : (k : ℕ) → k < rows_used t → RowKept (row_at t.journal k) (row_at (tables_of after).journal k)
  row-posted k h =
      let l : k < length (book_of t).rows = rw (length-sound-rows t s) h in
      let m : k < length after.rows = omega (arith, (post-keeps-rows (book_of t) e).longer) in
      let p : get_or (book_of t).rows k blank ≡ row_at t.journal k = rw (sound-rows t s) (tabulate-at (row_at t.journal) (rows_used t) k blank h) in
      rw (← p, ← written_row after after-sound k m) ((post-keeps-rows (book_of t) e).each k l)

  -- the rows of the tables after it
  rows-posted : rows_of (tables_of after).journal (rows_used (tables_of after)) ≡ after.rows
  rows-posted =
      sym (sound-rows (tables_of after) (sound_tables-tables_of after after-sound))
      ∙ ap (λ (b : Book). b.rows) (book_of-tables_of after (near after after-sound))

  module _ (i : Index) (x : Indexed t i) (o : may_pay_held e i.slots.by_account ≡ false) where
    no-tick : e.kind ≢ event_tick
    unfolding may_pay_held
    no-tick k = true≢false (sym (eq-eqb e.kind event_tick k) ∙ or_left (e.kind is event_tick) _ o)

    no-money : e.kind ≡ event_decision → money e.account (book_of t).rows ≡ 0
    unfolding may_pay_held
    no-money k =
        let q : ltb 0 (slot_at i.slots.by_account e.account).money ≡ false =
        and_then (e.kind is event_decision) _ (eq-eqb e.kind event_decision k) (or_right (e.kind is event_tick) _ o) in
        omega (arith, ltb-false 0 (slot_at i.slots.by_account e.account).money q, slot-money t s i.slots.by_account x.slots-of e.account)

    -- each account's money once the rows that the event added are added to it
    moneys-posted : MoneysUpTo (rows_of (tables_of after).journal (rows_used (tables_of after))) (rows_used t) i.slots.by_account
    moneys-posted a b =
        rw (rows-posted, x.slots-of.moneys a b, ← sound-rows t s, ← length-sound-rows t s)
        (post-money (book_of t) e (facts-sound (book_of t) (sound-book t s)) no-tick no-money a)

  -- the index of the rows before an event, on the tables after it
  pub index-posted : (i : Index) → Indexed t i → IndexedBefore (tables_of after) (rows_used t) e i
  index-posted i x = record {
    trees = trees-kept t.journal (tables_of after).journal (rows_used t) row-posted i.cells x.trees;
    hold = hold-kept t.journal (tables_of after).journal (rows_used t) row-posted i.slots.by_account x.slots-of.hold;
    moneys = moneys-posted i x;
  }

-- what is asked of the tables after an event that was posted
asked : (t u : Tables) (e : Instruction) (r : Answer) (before : ℕ) → before ≡ rows_used t → sound_tables t ≡ true → Posts t u e r → (i : Index)
    → Indexed t i → (sound_tables u ≡ true) × (before ≤ rows_used u) × IndexedBefore u before e i
asked t u e r before b s p i x =
    rw (p.tables, b) (sound_tables-tables_of (post (book_of t) e).book (after-sound t s e), used-posted t s e, index-posted t s e i x)

-- what update asks: the index is of the three tables that events write, whatever the holidays
pub update-asked : (hs : List ℤ) (t u : Tables) (e : Instruction) (r : Answer) (before : ℕ) → before ≡ rows_used t → sound_tables (tables_with hs t) ≡ true
    → Posts (tables_with hs t) (tables_with hs u) e r → (i : Index) → Indexed (tables_with [] t) i
    → (sound_tables (tables_with [] u) ≡ true) × (before ≤ rows_used u) × IndexedBefore (tables_with [] u) before e i
update-asked hs t u e r before b s p i x =
    let a = asked (tables_with hs t) (tables_with hs u) e r before b s p i (record { trees = x.trees; slots-of = x.slots-of }) in
    (sound-without hs u a.0, a.1, record { trees = a.2.trees; hold = a.2.hold; moneys = a.2.moneys })
