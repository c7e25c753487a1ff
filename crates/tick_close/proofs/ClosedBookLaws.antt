-- The closings by the arrays are those of the book: what is read of the tables decides as the rules do, and the tables at the end hold
-- the book after the closings.
use mathlib.Core.Path.{◌≡◌, refl, sym, ap, ◌∙◌}
use mathlib.Core.Bool.{Bool, true, false, not, ◌&&◌, true≢false, and-true}
use Prim.Native.Nat.{ℕ, zero, suc, ◌+◌, ◌-◌, ◌^◌, ◌≤◌, ◌<◌}
use native.Mathlib.Omega.{arith}
use native.Mathlib.Nat.{mul-le-mul_right}
use mathlib.Core.List.{List, ◌++◌, map}
use lib.ListN.{length, get_or, length-append, length-map}
use lib.IntN.{ℤ}
use lib.Dec.{eqb}
use borrow.Author.Tests.{eq-eqb, ne_eqb, not-true}
use Rattle.lists.specs.Tests.{◌is◌}
use Rattle.lists.specs.Lists.{only, exists, gather, change}
use Rattle.lists.proofs.TestLaws.{cond_either}
use Rattle.lists.proofs.ListLaws.{tabulate-at, length-tabulate, numbered-at}
use Rattle.lists.proofs.GatherLaws.{gather-same, change-same}
use Rattle.records.specs.Layout.{day_place}
use Rattle.records.specs.Encoding.{word, row_at, rows_of, account_at, accounts_of}
use Rattle.records.specs.Limits.{most_rows, most_accounts, highest_refund, slot_count}
use Rattle.rules.specs.BusinessDays.{business_day}
use Rattle.rules.specs.Rows.{Row, blank, remaining, unsettled, source_of, debit_of}
use Rattle.rules.specs.Settlement.{money, owed}
use Rattle.rules.specs.Book.{Account, unused, Book, account, account_no}
use Rattle.rules.specs.Soundness.{account_used}
use Rattle.rules.specs.Tick.{closes, close_if, refund_row, use_up, close_accounts}
use Rattle.rules.specs.Tables.{Tables, accounts_in, room_in, rows_used, holidays_in, book_of}
use Rattle.rules.proofs.StorableLaws.{used-inside, day-le, account-storable}
use Rattle.preservation.proofs.ClosingLaws.{none-owed}
use Rattle.tick_rules.proofs.RefundLaws.{none-unsettled}
use Rattle.tick_rules.proofs.UnclosedLaws.{unclosed}
use Rattle.tables.specs.Changes.{RowsMapped}
use Rattle.tables.proofs.ChangeLaws.{mapped-all}
use Rattle.account_sums.specs.Tallies.{money_of}
use Rattle.account_sums.proofs.TallyLaws.{tallied-small}
use Rattle.posting.specs.Posts.{tables_over}
use Rattle.posting.specs.Written.{Written}
use Rattle.posting.specs.Written.{UsedRows}
use Rattle.posting_laws.proofs.UsedRowsLaws.{rows_before, rows-map, rows_then, rows_written}
use Rattle.tick_base.specs.Midway.{Midway}
use Rattle.tick_base.specs.declared.sums.Remains.{Remains}
use Rattle.tick_base.specs.Remainders.{Remainders, days_over}
use Rattle.tick_base.proofs.MidwayLaws.{midway-header, midway-rows, midway-length, midway-few, midway-room, midway-count, midway-each, midway-countable}
use Rattle.tick_close.specs.Closing.{closes_by, close_by, refunds_by, use_up_by, UsableRows, close_at, refund_at, refunds_to, AllClosable, ClosedTo}

-- "no unsettled debit" is that nothing is owed
owed-test : (n : ℕ) (rows : List Row) → owed n rows is 0 ≡ not (exists (λ r. debit_of n r && unsettled r) rows)
owed-test n rows = go (not (exists (λ r. debit_of n r && unsettled r) rows)) refl
  where
    go : (v : Bool) → not (exists (λ r. debit_of n r && unsettled r) rows) ≡ v → owed n rows is 0 ≡ v
    go true e = eq-eqb (owed n rows) 0 (none-owed n rows e)
    go false e = ne_eqb (owed n rows) 0 (λ z. true≢false (ap not (sym (none-unsettled n rows z)) ∙ e))

module _ (t : Tables) (m : Midway (word t.header day_place) t) where
  abbrev b : Book
  b = book_of t

  -- ---- every row's account is one of the table's

  account-inside : (k : ℕ) → k < length b.rows → (1 ≤ (get_or b.rows k blank).account) × ((get_or b.rows k blank).account ≤ length b.accounts)
  unfolding account_used
  account-inside k h =
      let n : ℕ = (get_or b.rows k blank).account in
      let e : eqb (account_no b.accounts n).state 0 ≡ false = not-true _ (m.near.shape k h).account in
      (numbered n e, used-inside b.accounts n e)
    where
      numbered : (n : ℕ) → eqb (account_no b.accounts n).state 0 ≡ false → 1 ≤ n
      numbered zero e = absurd (true≢false e)
      numbered (suc n) e = omega arith

  accounts-same : b.accounts ≡ accounts_of t.accounts (accounts_in t)
  unfolding book_of
  accounts-same = refl

  accounts-length : length b.accounts ≡ accounts_in t
  unfolding book_of
  accounts-length = length-tabulate (account_at t.accounts) (accounts_in t)

  -- where none closes, the tables are as they were
  pub none-closed : ((k : ℕ) → k < length b.accounts → closes b (suc k) (get_or b.accounts k unused) ≡ false) → Written t t (close_accounts b)
  none-closed z =
      rw (unclosed b account-inside z)
      (rows_written t t.header t.journal b.rows (rw (midway-rows _ t m) (rows_before t)) t.accounts b.accounts refl (sym accounts-same))

  inside : (k : ℕ) → k < rows_used t → (1 ≤ (row_at t.journal k).account) × ((row_at t.journal k).account ≤ accounts_in t)
  inside = rw accounts-length at (midway-each _ t m (λ r. (1 ≤ r.account) × (r.account ≤ length b.accounts)) account-inside)

  pub rows-usable : UsableRows t.accounts t.journal (rows_used t)
  rows-usable = record {
    room = midway-room _ t m;
    each = λ k h. let i = inside k h in record {
      from = i.0;
      to = omega (arith, i.0, i.1);
      few = omega (arith, i.1, midway-count _ t m);
      amount = omega (arith, (midway-countable _ t m).amount k h);
    };
  }

  -- ---- the arrays decide as the book does

  module _ (due : business_day (holidays_in t) (word t.header day_place) ≡ true) (s : Remains) (r : Remainders t.journal s (rows_used t)) where
    money-read : (n : ℕ) → n ≤ most_accounts → get_or s.money n 0 ≡ money n b.rows
    unfolding money
    money-read n l = r.moneys.each n (omega arith) ∙ rw (midway-rows _ t m)

    owed-read : (n : ℕ) → n ≤ most_accounts → get_or s.owed n 0 ≡ owed n b.rows
    unfolding owed
    owed-read n l = r.owings.each n (omega arith) ∙ rw (midway-rows _ t m)

    closes-read : (n : ℕ) → n ≤ most_accounts → (x : Account) → closes_by (word t.header day_place) (get_or s.owed n 0) x ≡ closes b n x
    unfolding closes_by closes days_over book_of
    closes-read n l x = rw (owed-read n l, owed-test n b.rows, due, and-true)

    close-read : (n : ℕ) → n ≤ most_accounts → (x : Account) → close_at (word t.header day_place) s n x ≡ close_if b n x
    unfolding close_at close_by close_if
    close-read n l x = rw (closes-read n l x)

    refund-read : (n : ℕ) → n ≤ most_accounts → (x : Account) → refund_at (word t.header day_place) s n x ≡ refund_row b n x
    unfolding refund_at refunds_by refund_row book_of
    refund-read n l x = rw (closes-read n l x, money-read n l)

    -- ---- the sources

    account-read : (n : ℕ) → 1 ≤ n → n ≤ accounts_in t → account b n ≡ account_at t.accounts (n - 1)
    unfolding book_of
    account-read n l h = numbered-at (account_at t.accounts) (accounts_in t) n unused (λ z. omega arith) h

    use-read : (k : ℕ) → k < rows_used t → use_up_by (word t.header day_place) t.accounts s.owed (row_at t.journal k) ≡ use_up b (row_at t.journal k)
    unfolding use_up_by use_up
    use-read k h =
        let i = inside k h in
        let n : ℕ = (row_at t.journal k).account in
        rw (account-read n i.0 i.1, closes-read n (omega (arith, i.1, midway-count _ t m)) (account_at t.accounts (n - 1)))

    -- ---- the refunds and the accounts

    numbered-few : (n k : ℕ) → n ≡ 1 + k → k < length b.accounts → n ≤ most_accounts
    numbered-few n k e h = omega (arith, accounts-length, midway-count _ t m)

    refunds-read : refunds_to (word t.header day_place) s t.accounts (accounts_in t) ≡ gather (refund_row b) b.accounts
    refunds-read =
        rw (← accounts-same)
        (gather-same (refund_at (word t.header day_place) s) (refund_row b) 1 b.accounts b.accounts unused refl
        (λ n k e h. refund-read n (numbered-few n k e h) (get_or b.accounts k unused)))

    accounts-read : change (close_at (word t.header day_place) s) (accounts_of t.accounts (accounts_in t)) ≡ change (close_if b) b.accounts
    accounts-read =
        rw (← accounts-same)
        (change-same (close_at (word t.header day_place) s) (close_if b) 1 b.accounts unused
        (λ n k e h. close-read n (numbered-few n k e h) (get_or b.accounts k unused)))

    moneys-small : (n : ℕ) → n ≤ most_accounts → get_or s.money n 0 < 2 ^ 63
    unfolding only
    moneys-small n l =
        let c = tallied-small money_of slot_count t.journal highest_refund s.money (rows_used t) n r.moneys (omega arith) (λ k h.
        cond_either (λ v. v ≤ highest_refund) (source_of n (row_at t.journal k)) (remaining (row_at t.journal k)) 0 (omega (arith, (midway-countable _ t m).amount k h)) (omega arith)) in
        let f = mul-le-mul_right {m = rows_used t} {n = most_rows} highest_refund (midway-few _ t m) in
        omega arith

    module _ (j : List ℤ) (w : RowsMapped (use_up_by (word t.header day_place) t.accounts s.owed) t.journal j (rows_used t)) where
      mapped : RowsMapped (use_up b) t.journal j (rows_used t)
      mapped = record { size = w.size; done = λ k h. w.done k h ∙ use-read k h; left = w.left }

      rows-used-up : rows_of j (rows_used t) ≡ map (use_up b) b.rows
      rows-used-up = mapped-all row_at (use_up b) t.journal j (rows_used t) mapped ∙ rw (midway-rows _ t m)

      -- ---- what the last loop asks, and what it leaves

      closed-length : length (close_accounts b).rows ≡ rows_used t + length (gather (refund_row b) b.accounts)
      unfolding close_accounts
      closed-length =
          length-append (map (use_up b) b.rows) (gather (refund_row b) b.accounts)
          ∙ ap (λ (n : ℕ). n + length (gather (refund_row b) b.accounts)) (length-map b.rows (use_up b) ∙ midway-length _ t m)

      pub all-closable : length (close_accounts b).rows ≤ room_in t → AllClosable t.header t.accounts j (word t.header day_place) s
      all-closable l = record {
        header = midway-header _ t m;
        few = midway-count _ t m;
        holds = λ k h. rw (← tabulate-at (account_at t.accounts) (accounts_in t) k unused h, ← accounts-same) (account-storable _ b m.near k (rw accounts-length h));
        day = day-small;
        amounts = moneys-small;
        room = rw (w.size, refunds-read, ← closed-length) l;
      }
        where
          day-small : word t.header day_place < 2 ^ 63
          day-small = unfold book_of in (omega (arith, day-le _ b m.near))

      pub closed-written : (h a j' : List ℤ) → ClosedTo t.header t.accounts j h a j' (word t.header day_place) s (accounts_in t)
          → Written t (tables_over t h a j') (close_accounts b)
      unfolding close_accounts
      closed-written h a j' c =
          rows_written t h j' (map (use_up b) b.rows ++ gather (refund_row b) b.accounts) all-rows a (change (close_if b) b.accounts) c.size (c.done ∙ accounts-read)
        where
          first_rows : UsedRows t t.header j (map (use_up b) b.rows)
          first_rows = rows-map t t.header t.journal j b.rows (rw (midway-rows _ t m) (rows_before t)) (use_up b) (rw (midway-length _ t m) mapped)

          -- of the tables only the header and the journal are looked at
          closed-rows : UsedRows (tables_over t t.header t.accounts j) h j' (map (use_up b) b.rows ++ gather (refund_row b) b.accounts)
          closed-rows = let v = rw (rows-used-up, refunds-read) at c.rows in
              record { header-size = v.header-size; used = v.used; words = v.words; journal-size = v.journal-size; rows = v.rows; longer = v.longer; rest = v.rest }

          all-rows : UsedRows t h j' (map (use_up b) b.rows ++ gather (refund_row b) b.accounts)
          all-rows = rows_then t t.header j j' (map (use_up b) b.rows) first_rows t.accounts h (map (use_up b) b.rows ++ gather (refund_row b) b.accounts) closed-rows
