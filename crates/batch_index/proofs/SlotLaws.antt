-- The slots through a store: a first row that moves, an account's money that a row changes.
use mathlib.Core.Path.{◌≡◌, refl, sym, ap, ◌∙◌}
use mathlib.Core.Logic.{◌≢◌}
use mathlib.Core.Bool.{Bool, true, false, cond, and-false}
use Prim.Native.Nat.{ℕ, suc, ◌+◌, ◌*◌, ◌-◌, ◌≤◌, ◌<◌}
use native.Mathlib.Omega.{arith}
use native.Mathlib.Decide.{ℕ_discrete, dec_lt}
use mathlib.Core.List.{List, ◌∷◌}
use lib.Dec.{ltb}
use lib.IntN.{ℤ}
use lib.ListN.{length, set, drop, take, replicate, length-set, length-replicate, take-append-drop, drop_of_length-le}
use lib.Seq.{get_or-set_same, get_or-set_other, drop-cons}
use borrow.Author.Tests.{eq-eqb, ne_eqb, ltb-false}
use Rattle.std.specs.Bool.{⊤}
use Rattle.std.specs.Option.{MatchOption, unwrap_or}
use Rattle.std.specs.Prelude.{Option, Some, None}
use Rattle.std.proofs.lemmas.List.{get_or-replicate}
use Rattle.lists.specs.Tests.{◌is◌}
use Rattle.lists.specs.Lists.{sum_by, only}
use Rattle.lists.proofs.ListLaws.{length-tabulate, tabulate-at}
use Rattle.lists.proofs.SumLaws.{sum_by-append, sum_by-small, sum_by-zero-at, only-le}
use Rattle.records.specs.Encoding.{row_at, rows_of}
use Rattle.records.specs.Limits.{highest_refund, slot_count}
use Rattle.rules.specs.Rows.{Row, Test, blank, source, remaining, source_of}
use Rattle.rules.specs.Settlement.{money}
use Rattle.account_sums.specs.Tallies.{Countable}
use Rattle.batch_index.specs.Money.{money_with, money_after}
use Rattle.batch_index.specs.declared.slots.Side.{Side}
use Rattle.batch_index.specs.declared.slots.Side.TheVariants.{Sources, Debits}
use Rattle.batch_index.specs.declared.slots.Slot.{Slot}
use Rattle.batch_index.specs.Slots.{of_side, side_of, first_of, with_first, no_slot, slot_at, SlotsHold, MoneysOf, MoneysUpTo, NextOpen, SlotsOf}
use Rattle.batch_index.proofs.SideLaws.{source-side, debit-side, side-other}

-- ---- the money of a journal's rows

module _ (j : List ℤ) (n : ℕ) where
  rows-length : length (rows_of j n) ≡ n
  rows-length = length-tabulate (row_at j) n

  -- row i and the rows after it
  rows-from : (i : ℕ) → i < n → drop i (rows_of j n) ≡ row_at j i ∷ drop (i + 1) (rows_of j n)
  rows-from i l =
      let z : suc i ≡ i + 1 = omega arith in
      drop-cons (rows_of j n) i blank (omega (arith, rows-length)) ∙ rw (tabulate-at (row_at j) n i blank l, z)

  money-from : (a i : ℕ) → i < n
      → money a (drop i (rows_of j n)) ≡ only (source_of a) remaining (row_at j i) + money a (drop (i + 1) (rows_of j n))
  unfolding money sum_by
  money-from a i l = rw (rows-from i l)

  money-end : (a : ℕ) → money a (drop n (rows_of j n)) ≡ 0
  unfolding money sum_by
  money-end a = rw (drop_of_length-le (rows_of j n) {i = n} (omega (arith, rows-length)))

  module _ (c : Countable j n) where
    -- no more than the rows can have
    money-small : (a i : ℕ) → money a (drop i (rows_of j n)) ≤ n * highest_refund
    unfolding money
    money-small a i =
        let f : Row → ℕ = only (source_of a) remaining in
        omega (
          arith,
          sum_by-append f (take i (rows_of j n)) (drop i (rows_of j n)),
          ap (sum_by f) (take-append-drop i (rows_of j n)),
          sum_by-small f (row_at j) highest_refund n (λ k l. omega (arith, only-le (source_of a) remaining (row_at j k), c.amount k l)),
        )

    -- an account number without a slot has no row
    pub money-outside : (a : ℕ) → slot_count ≤ a → money a (rows_of j n) ≡ 0
    unfolding money only source_of
    money-outside a h =
        sum_by-zero-at (only (source_of a) remaining) blank (rows_of j n)
        (λ k l.
        let q : k < n = omega (arith, rows-length) in
        rw (tabulate-at (row_at j) n k blank q, ne_eqb (row_at j k).account a (λ w. omega (arith, c.account k q))))

-- ---- a slot is put

module _ (slots : List Slot) (z : length slots ≡ slot_count) (a : ℕ) (x : Slot) (b : a < slot_count) where
  slot-same : slot_at (set slots a x) a ≡ x
  slot-same = get_or-set_same slots a x no_slot (omega (arith, z))

  slot-other : (m : ℕ) → m ≢ a → slot_at (set slots a x) m ≡ slot_at slots m
  slot-other m n = get_or-set_other slots a m x no_slot n

  -- what holds of the slot put and of each slot before holds of each
  slot-each : (P : ℕ → Slot → Type 0) → P a x → ((m : ℕ) → m < slot_count → P m (slot_at slots m)) → (m : ℕ) → m < slot_count → P m (slot_at (set slots a x) m)
  slot-each P p q m d = elim (ℕ_discrete m a) [
    | yes w ↦ rw (w, slot-same) p
    | no w ↦ rw (slot-other m w) (q m d)
  ]

-- before its first rows nothing is left from row i on
slot-put : (j : List ℤ) (n i : ℕ) (slots : List Slot) → SlotsHold j n i slots → (a : ℕ) (x : Slot) → a < slot_count
    → ((s : Side) → first_of s x ≤ n)
    → ((s : Side) (k : ℕ) → i ≤ k → k < first_of s x → only (of_side s a) remaining (row_at j k) ≡ 0)
    → x.money ≤ n * highest_refund
    → SlotsHold j n i (set slots a x)
slot-put j n i slots t a x b f p m = record {
  sized = length-set slots a x ∙ t.sized;
  first-in = λ s. slot-each slots t.sized a x b (λ q y. first_of s y ≤ n) (f s) (t.first-in s);
  passed = λ s. slot-each slots t.sized a x b (λ q y. (k : ℕ) → i ≤ k → k < first_of s y → only (of_side s q) remaining (row_at j k) ≡ 0) (p s) (t.passed s);
  bounded = slot-each slots t.sized a x b (λ q y. y.money ≤ n * highest_refund) m t.bounded;
}

-- ---- a row is noted, from the last to the first

-- a row earlier, of which nothing is left on a side whose first row is later
slots-hold-earlier : (j : List ℤ) (n i : ℕ) (slots : List Slot) → SlotsHold j n (i + 1) slots
    → ((s : Side) (a : ℕ) → a < slot_count → i < first_of s (slot_at slots a) → only (of_side s a) remaining (row_at j i) ≡ 0) → SlotsHold j n i slots
slots-hold-earlier j n i slots t z = record {
  sized = t.sized;
  first-in = t.first-in;
  passed = λ s a b k l q. elim (ℕ_discrete k i) [
    | yes e ↦ rw e (z s a b (rw e at q))
    | no e ↦ t.passed s a b k (omega arith) q
  ];
  bounded = t.bounded;
}

-- row i is noted: r is the row
module _ (j : List ℤ) (n i : ℕ) (slots : List Slot) (t : SlotsHold j n (i + 1) slots) (ms : MoneysOf (drop (i + 1) (rows_of j n)) slots)
    (c : Countable j n) (l : i < n) (r : Row) (e : r ≡ row_at j i) where
  pub note-account : r.account < slot_count
  note-account = rw e (omega (arith, c.account i l))

  abbrev old : Slot
  old = slot_at slots r.account

  pub note-closed : (m : ℕ) → m ≡ remaining r → m ≡ 0 → SlotsHold j n i slots × MoneysOf (drop i (rows_of j n)) slots
  note-closed m q z =
      let w : remaining (row_at j i) ≡ 0 = rw (← e) (sym q ∙ z) in (
        slots-hold-earlier j n i slots t (λ s a b k. omega (arith, only-le (of_side s a) remaining (row_at j i))),
        λ a b. omega (arith, ms a b, money-from j n a i l, only-le (source_of a) remaining (row_at j i)),
      )

  -- it becomes the first row of its side
  note-first : (x : Slot) → first_of (side_of r) x ≡ i → SlotsHold j n (i + 1) (set slots r.account x) → SlotsHold j n i (set slots r.account x)
  note-first x f w =
      slots-hold-earlier j n i (set slots r.account x) w
      (λ s a b k. rw (← e) (side-other remaining s a r (λ p q.
      let u : i < first_of (side_of r) (slot_at (set slots r.account x) r.account) = rw (← p, ← q) at k in
      let v : i < first_of (side_of r) x = rw (slot-same slots t.sized r.account x note-account) at u in
      omega (arith, f))))

  -- what it adds to an account's money
  source-adds : (a : ℕ) → source r ≡ true → r.account ≡ a → only (source_of a) remaining (row_at j i) ≡ remaining r
  unfolding only source_of
  source-adds a f q = rw (← e, f, eq-eqb r.account a q)

  other-adds : (a : ℕ) → r.account ≢ a → only (source_of a) remaining (row_at j i) ≡ 0
  unfolding only source_of
  other-adds a q = rw (← e, ne_eqb r.account a q)

  debit-adds : (a : ℕ) → source r ≡ false → only (source_of a) remaining (row_at j i) ≡ 0
  unfolding only source_of
  debit-adds a f = rw (← e, f, and-false (r.account is a))

  -- the money of the row's account, and of the others
  moneys-noted : (x : Slot) → x.money ≡ money r.account (drop i (rows_of j n)) → ((a : ℕ) → r.account ≢ a → only (source_of a) remaining (row_at j i) ≡ 0)
      → MoneysOf (drop i (rows_of j n)) (set slots r.account x)
  moneys-noted x m z a b = elim (ℕ_discrete a r.account) [
    | yes w ↦ rw (w, slot-same slots t.sized r.account x note-account) m
    | no w ↦ rw (slot-other slots t.sized r.account x note-account a w) (omega (arith, ms a b, money-from j n a i l, z a (λ y. w (sym y))))
  ]

  -- a debit
  abbrev noted-debit : Slot
  noted-debit = record { source = old.source; debit = i; money = old.money }

  pub note-debit : source r ≡ false → SlotsHold j n i (set slots r.account noted-debit) × MoneysOf (drop i (rows_of j n)) (set slots r.account noted-debit)
  note-debit f = (
    note-first noted-debit (rw (debit-side r f) refl) (slot-put j n (i + 1) slots t r.account noted-debit note-account firsts passed (t.bounded r.account note-account)),
    moneys-noted noted-debit (omega (arith, ms r.account note-account, money-from j n r.account i l, debit-adds r.account f)) (λ a q. other-adds a q),
  )
    where
      firsts : (s : Side) → first_of s noted-debit ≤ n
      firsts Sources = t.first-in Sources r.account note-account
      firsts Debits = omega arith

      passed : (s : Side) (k : ℕ) → i + 1 ≤ k → k < first_of s noted-debit → only (of_side s r.account) remaining (row_at j k) ≡ 0
      passed Sources k a b = t.passed Sources r.account note-account k a b
      passed Debits k a b = absurd (omega arith)

  -- a source: what is left of it joins the account's money
  module _ (f : source r ≡ true) (v : ℕ) (w : v ≡ remaining r) where
    abbrev noted-source : Slot
    noted-source = record { source = i; debit = old.debit; money = old.money + v }

    money-noted : old.money + v ≡ money r.account (drop i (rows_of j n))
    money-noted = omega (arith, w, ms r.account note-account, money-from j n r.account i l, source-adds r.account f refl)

    pub note-source : SlotsHold j n i (set slots r.account noted-source) × MoneysOf (drop i (rows_of j n)) (set slots r.account noted-source)
    note-source = (
      note-first noted-source (rw (source-side r f) refl)
          (slot-put j n (i + 1) slots t r.account noted-source note-account firsts passed (omega (arith, money-noted, money-small j n c r.account i))),
      moneys-noted noted-source money-noted (λ a q. other-adds a q),
    )
      where
        firsts : (s : Side) → first_of s noted-source ≤ n
        firsts Sources = omega arith
        firsts Debits = t.first-in Debits r.account note-account

        passed : (s : Side) (k : ℕ) → i + 1 ≤ k → k < first_of s noted-source → only (of_side s r.account) remaining (row_at j k) ≡ 0
        passed Sources k a b = absurd (omega arith)
        passed Debits k a b = t.passed Debits r.account note-account k a b

-- ---- every first row at the end and no money: no row is noted yet

abbrev pub end_slot : ℕ → Slot
end_slot n = record { source = n; debit = n; money = 0 }

pub end-holds : (j : List ℤ) (n : ℕ) → SlotsHold j n n (replicate slot_count (end_slot n)) × MoneysOf (drop n (rows_of j n)) (replicate slot_count (end_slot n))
end-holds j n = (
  record {
    sized = length-replicate slot_count (end_slot n);
    first-in = λ s a b. rw (at a b) (firsts s);
    passed = λ s a b k l q. absurd (omega (arith, firsts s, rw (at a b) at q));
    bounded = λ a b. rw (at a b) (omega arith);
  },
  λ a b. rw (at a b) (sym (money-end j n a)),
)
  where
    at : (a : ℕ) → a < slot_count → slot_at (replicate slot_count (end_slot n)) a ≡ end_slot n
    at a b = get_or-replicate slot_count a (end_slot n) no_slot b

    firsts : (s : Side) → first_of s (end_slot n) ≤ n
    firsts Sources = omega arith
    firsts Debits = omega arith

-- ---- a row is added

module _ (j : List ℤ) (n i : ℕ) (slots : List Slot) (t : SlotsHold j i 0 slots) (ms : MoneysUpTo (rows_of j n) i slots) (c : Countable j n)
    (l : i < n) (r : Row) (e : r ≡ row_at j i) where
  abbrev slot : Slot
  slot = slot_at slots r.account

  pub added-account : r.account < slot_count
  added-account = rw e (omega (arith, c.account i l))

  left-small : remaining r ≤ highest_refund
  left-small = let h : r.amount ≤ highest_refund = rw e (c.amount i l) in omega arith

  module _ (v : ℕ) (w : v ≡ money_with r.account slot.money r) where
    abbrev with-row : Slot
    with-row = record { source = slot.source; debit = slot.debit; money = v }

    added-small : v ≤ slot.money + highest_refund
    unfolding money_with
    added-small = rw w (go (r.account is r.account) (source r))
      where
        go : (x y : Bool) → cond x (cond y (slot.money + remaining r) (slot.money - r.amount)) slot.money ≤ slot.money + highest_refund
        go true true = omega (arith, left-small)
        go true false = omega arith
        go false y = omega arith

    pub row-added : SlotsHold j (i + 1) 0 (set slots r.account with-row) × MoneysUpTo (rows_of j n) (i + 1) (set slots r.account with-row)
    unfolding money_after money_with
    row-added = (
      slot-put j (i + 1) 0 slots more r.account with-row added-account firsts passed (omega (arith, added-small, t.bounded r.account added-account)),
      λ a b. moneys a b (ℕ_discrete a r.account),
    )
      where
        more : SlotsHold j (i + 1) 0 slots
        more = record {
          sized = t.sized;
          first-in = λ s a b. omega (arith, t.first-in s a b);
          passed = t.passed;
          bounded = λ a b. omega (arith, t.bounded a b);
        }

        same : (s : Side) → first_of s with-row ≡ first_of s slot
        same Sources = refl
        same Debits = refl

        firsts : (s : Side) → first_of s with-row ≤ i + 1
        firsts s = rw (same s) (more.first-in s r.account added-account)

        passed : (s : Side) (k : ℕ) → 0 ≤ k → k < first_of s with-row → only (of_side s r.account) remaining (row_at j k) ≡ 0
        passed s k a b = t.passed s r.account added-account k a (rw (same s) at b)

        -- what is still to be added, after this row
        rest : (a : ℕ) → a < slot_count
            → money_after a (money_with a (slot_at slots a).money r) (drop (i + 1) (rows_of j n)) ≡ money a (rows_of j n)
        rest a b = rw e (rw (rows-from j n i l) at (ms a b))

        moneys : (a : ℕ) → a < slot_count → Dec (a ≡ r.account)
            → money_after a (slot_at (set slots r.account with-row) a).money (drop (i + 1) (rows_of j n)) ≡ money a (rows_of j n)
        moneys a b (yes x) = rw (x, slot-same slots t.sized r.account with-row added-account, w) (rest r.account added-account)
        moneys a b (no x) = rw (slot-other slots t.sized r.account with-row added-account a x) (rw (ne_eqb r.account a (λ y. x (sym y))) at (rest a b))

-- all rows are added
pub rows-added : (j : List ℤ) (n : ℕ) (slots : List Slot) → SlotsHold j n 0 slots → MoneysUpTo (rows_of j n) n slots → SlotsOf j n slots
unfolding money_after
rows-added j n slots t ms = record {
  hold = t;
  moneys = λ a b. rw (drop_of_length-le (rows_of j n) {i = n} (omega (arith, rows-length j n))) at (ms a b);
}

-- ---- the walk forward

-- nothing is left at a row, by the test of it
pub nothing-at : (p : Test) (r : Row) → false ≡ ltb 0 (only p remaining r) → only p remaining r ≡ 0
nothing-at p r e = omega (arith, ltb-false 0 (only p remaining r) (sym e))

-- the first row found, or the end where none is
pub next-found : (p : Test) (j : List ℤ) (used i : ℕ) → i ≤ used → (r : Option ℕ)
    → MatchOption r ((k : ℕ) → i ≤ k → k < used → only p remaining (row_at j k) ≡ 0)
    (λ x. (i ≤ x) × (x < used) × ⊤ × ((k : ℕ) → i ≤ k → k < x → only p remaining (row_at j k) ≡ 0))
    → NextOpen p j used i (unwrap_or r used)
next-found p j used i l None m = record { within = omega arith; passed = m }
next-found p j used i l (Some x) m = record { within = omega (arith, m.1); passed = m.3 }

-- a first row that moves is that of one side, and leaves the money
moved-first : (P : ℕ → Type 0) (s u : Side) (v : ℕ) (x : Slot) → (u ≡ s → P v) → P (first_of u x) → P (first_of u (with_first s v x))
moved-first P Sources Sources v x p q = p refl
moved-first P Sources Debits v x p q = q
moved-first P Debits Sources v x p q = q
moved-first P Debits Debits v x p q = p refl

moved-money : (s : Side) (v : ℕ) (x : Slot) → (with_first s v x).money ≡ x.money
moved-money Sources v x = refl
moved-money Debits v x = refl

-- the first row moves to the next open one
pub first-moved : (j : List ℤ) (n : ℕ) (slots : List Slot) → SlotsOf j n slots → (s : Side) (a v : ℕ) → a < slot_count
    → NextOpen (of_side s a) j n (first_of s (slot_at slots a)) v → SlotsOf j n (set slots a (with_first s v (slot_at slots a)))
first-moved j n slots w s a v b o =
    let x : Slot = slot_at slots a in
    let t : SlotsHold j n 0 slots = w.hold in
    let kept : (with_first s v x).money ≡ x.money = moved-money s v x in
    record {
      hold = slot-put j n 0 slots t a (with_first s v x) b
          (λ u. moved-first (λ k. k ≤ n) s u v x (λ e. o.within) (t.first-in u a b))
          (λ u. moved-first (λ f. (k : ℕ) → 0 ≤ k → k < f → only (of_side u a) remaining (row_at j k) ≡ 0) s u v x
          (λ e k l q. rw e (elim (dec_lt k (first_of s x)) [
            | yes h ↦ t.passed s a b k l h
            | no h ↦ o.passed k (omega arith) q
          ]))
          (t.passed u a b))
          (rw kept (t.bounded a b));
      moneys = slot-each slots t.sized a (with_first s v x) b (λ m y. y.money ≡ money m (rows_of j n)) (kept ∙ w.moneys a b) w.moneys;
    }
