-- Laws behind the counts of a tick: the fees of a header, the rows that a toll brings, the shares of a row in the sums.
use mathlib.Core.Path.{◌≡◌, refl, sym, ap, ◌∙◌}
use mathlib.Core.Bool.{Bool, true, false, not, cond, ◌&&◌, ◌||◌, or-false, true≢false, false≢true, and-true, and-false}
use Prim.Native.Nat.{ℕ, zero, suc, ◌+◌, ◌-◌, ◌≤◌, ◌<◌}
use native.Mathlib.Omega.{arith}
use native.Mathlib.Numerals.{add-one}
use mathlib.Core.List.{List}
use mir.Val.{bool_byte}
use Rattle.lists.proofs.TestLaws.{byte-one, byte-few, and_left, and_right}
use Rattle.records.specs.Codes.{kind_toll}
use lib.IntN.{ℤ}
use lib.ListN.{length, get_or, replicate}
use lib.Dec.{eqb, leb, ltb}
use borrow.Author.Tests.{ne_eqb, lt-ltb, le-leb, ltb-true, eqb-true}
use Rattle.std.specs.Prelude.{MatchBool}
use Rattle.std.specs.List.{AllWithin, HoldsAt, range_with_len}
use Rattle.std.proofs.lemmas.Bool.{MatchBool-at_false}
use Rattle.std.proofs.lemmas.List.FromFn.{length-range_with_len, get_or-range_with_len}
use Rattle.lists.specs.Tests.{◌is◌}
use Rattle.lists.specs.Lists.{sum_by, only, exists, count, one, gather, gather_from, tabulate}
use Rattle.lists.proofs.SumLaws.{sum_by-more}
use Rattle.lists.proofs.GatherLaws.{length-gather-same, length-gather-tabulate}
use Rattle.lists.proofs.ListLaws.{tabulate-at, length-tabulate}
use Rattle.records.specs.Layout.{day_place, header_schedule}
use Rattle.records.specs.Encoding.{word, row_at, rows_of, account_at, accounts_of}
use Rattle.records.specs.Limits.{closing_days, most_rows, most_accounts, slot_count}
use Rattle.rules.specs.Schedule.{Schedule, stage_fee}
use Rattle.rules.specs.BusinessDays.{business_day}
use Rattle.rules.specs.Rows.{Row, Test, blank, dispute_held, held_toll, unsettled, remaining, source_of, debit_of}
use Rattle.rules.specs.Settlement.{money, owed}
use Rattle.rules.specs.Book.{Account, state_pending, unused, Book}
use Rattle.rules.specs.Tick.{hold_ends, rises, fee_row}
use Rattle.rules.specs.Tables.{Tables, accounts_in, rows_used, holidays_in, schedule_from, book_of, sound_tables}
use Rattle.tick_rules.specs.Ticks.{stays_held, will_refund, will_close, NoneCloses, fees_added, refunds_added}
use Rattle.tick_rules.proofs.UnclosedLaws.{no-refunds}
use Rattle.account_sums.specs.Tallies.{Tallied, money_of, owed_of}
use Rattle.rules.proofs.TableLaws.{sound-book, sound-rows}
use Rattle.rules.proofs.StorableLaws.{accounts-le}
use Rattle.posting.proofs.BookLaws.{day-read, schedule-read, used-small, count_small}
use Rattle.account_sums.proofs.TallyLaws.{tallied-none, tallied-skip}
use Rattle.account_sums.proofs.SumsLaws.{share-skipped}
use Rattle.preservation.proofs.DisputeKept.{HeldToll, held-is}
use Rattle.preservation.proofs.TickSteps.{rising}
use Rattle.tick_base.specs.declared.sums.Remains.{Remains}
use Rattle.tick_base.specs.Remainders.{Remainders, counted, days_over}
use Rattle.tick_base.proofs.StageLaws.{not-due, not-held, share-counted}
use Rattle.tick_base.proofs.MidwayLaws.{sound-midway, midway-each}
use Rattle.tick_plan.specs.Marks.{block_count, Marked}
use Rattle.tick_plan.proofs.MarkLaws.{marked-none, marked-past}
use Rattle.tick_plan.specs.Plans.{stays_of, ends_of, HeldOpen, close_by, close_at, NoneClosesBy, refund_by, refunds_at, refund_at, RowsCounted, Planned}
use Rattle.tick_plan.specs.declared.rows.RowCounts.{RowCounts}

-- ---- the fee row of a toll

-- one row or none, of whatever content
one-length : (v : Bool) (r : Row) → length (one v r) ≡ length (one v blank)
one-length true r = refl
one-length false r = refl

module _ (s : Schedule) (today : ℕ) (r : Row) where
  -- a toll that rises brings its fee row, where the fee is not 0
  pub fee-brought : (fee : ℕ) → fee ≡ cond (rises today r) (stage_fee s (r.mark + 1)) 0 → (n : ℕ) → cond (not (eqb fee 0)) 1 0 ≡ length (fee_row s today n r)
  unfolding fee_row
  fee-brought fee e n = sym (one-length (rises today r && ltb 0 (stage_fee s (r.mark + 1))) _ ∙ go (rises today r) (stage_fee s (r.mark + 1)) e)
    where
      go : (v : Bool) (f : ℕ) → fee ≡ cond v f 0 → length (one (v && ltb 0 f) blank) ≡ cond (not (eqb fee 0)) 1 0
      go true zero w = rw w refl
      go true (suc f) w = rw (w, lt-ltb 0 (suc f) (omega arith), ne_eqb (suc f) 0 (λ q. omega arith)) refl
      go false f w = rw w refl

  -- no toll that is not due today brings one
  pub fee-not-brought : (r.due ≡ today → ⊥) → (n : ℕ) → 0 ≡ length (fee_row s today n r)
  unfolding fee_row
  fee-not-brought q n = rw (not-due today r q) refl

-- ---- a test as a number, and what it counts

pub refund-counted : (c : RowCounts) (n : ℕ) (x : Account) (v : Bool) → v ≡ refunds_at c n x → bool_byte v ≡ length (refund_at c n x)
unfolding refund_at
refund-counted c n x v e = go v (refunds_at c n x) e
  where
    go : (v w : Bool) → v ≡ w → bool_byte v ≡ length (one w blank)
    go v true e = rw e refl
    go v false e = rw e refl

-- an account that closes, and owes less than it has, closes with money left
pub close-refund : (today stays owed money : ℕ) (x : Account) → close_by today stays owed money x && ltb owed money ≡ refund_by today stays owed money x
unfolding close_by refund_by
close-refund today stays owed money x = both (days_over today x) (stays is 0) (leb owed money) (ltb owed money) (less owed money)
  where
    both : (p q l m : Bool) → l && m ≡ m → (p && q && l) && m ≡ p && q && m
    both true true l m e = e
    both true false l m e = refl
    both false q l m e = refl

    less : (o m : ℕ) → leb o m && ltb o m ≡ ltb o m
    less o m = go (leb o m) (ltb o m) refl refl
      where
        go : (v w : Bool) → leb o m ≡ v → ltb o m ≡ w → v && w ≡ w
        go true w p q = refl
        go false false p q = refl
        go false true p q = absurd (true≢false (sym (le-leb o m (omega (arith, ltb-true o m q))) ∙ p))

-- a toll that stays held is in dispute
pub stays-held : (today : ℕ) (r : Row) → (r.dispute ≡ dispute_held → ⊥) → held_toll r && not (hold_ends today r) ≡ false
stays-held today r n = rw (not-held r n)

-- ---- one row more

-- of no rows
pub rows_none : (h t : List ℤ) (today : ℕ) (m : Remains) → Remainders t m 0 → RowsCounted h t today (record { today = today; remains = m; stays = replicate slot_count 0; ends = replicate slot_count 0; fees = 0; ending = false; marks = replicate block_count 0 }) 0
unfolding gather_from exists count sum_by tabulate
rows_none h t today m r = record { day = refl; sums = r; held = tallied-none (stays_of today) slot_count t; ends = tallied-none (ends_of today) slot_count t; fees = refl; few = omega arith; ending = refl; marks = marked-none today t }

module _ (h t : List ℤ) (today i : ℕ) where
  -- some row passes a test, with row n in view
  exists-more : (u : Row → Bool) (n : ℕ) → exists u (rows_of t (n + 1)) ≡ exists u (rows_of t n) || u (row_at t n)
  unfolding exists count
  exists-more u n = rw (sum_by-more (λ x. cond (u x) 1 0) (row_at t) n) (go (sum_by (λ x. cond (u x) 1 0) (rows_of t n)) (u (row_at t n)))
    where
      go : (m : ℕ) (v : Bool) → ltb 0 (m + cond v 1 0) ≡ ltb 0 m || v
      go zero true = refl
      go zero false = refl
      go (suc m) true = rw (lt-ltb 0 (suc m) (omega arith)) (lt-ltb 0 (suc m + 1) (omega arith))
      go (suc m) false = rw (lt-ltb 0 (suc m) (omega arith)) (lt-ltb 0 (suc m + 0) (omega arith))

  pub rows_more : (c : RowCounts) → RowsCounted h t today c i → (m : Remains) (stays endings : List ℕ) → Remainders t m (i + 1) → Tallied (stays_of today) slot_count t stays (i + 1)
      → Tallied (ends_of today) slot_count t endings (i + 1)
      → (brings : Bool) → ((k : ℕ) → cond brings 1 0 ≡ length (fee_row (schedule_from h header_schedule) today k (row_at t i)))
      → (ends : Bool) → ends ≡ hold_ends today (row_at t i)
      → (marks : List ℕ) → Marked today t marks (i + 1)
      → RowsCounted h t today (record { today = c.today; remains = m; stays = stays; ends = endings; fees = c.fees + bool_byte brings; ending = c.ending || ends; marks = marks }) (i + 1)
  rows_more c w m stays endings r s z brings f ends e marks d = record {
    day = w.day;
    sums = r;
    held = s;
    ends = z;
    fees = omega (arith, w.fees, f (i + 1), byte-one brings, length-gather-tabulate (fee_row (schedule_from h header_schedule) today) (row_at t) i);
    few = omega (arith, w.few, byte-few brings);
    ending = rw (exists-more (hold_ends today) i, w.ending, e);
    marks = d;
  }

-- ---- a row of which nothing is left comes to nothing

module _ (h t : List ℤ) (today i : ℕ) (spent : (row_at t i).settled ≡ (row_at t i).amount) (free : held_toll (row_at t i) ≡ false) where
  nothing : (u : Test) → only u remaining (row_at t i) ≡ 0
  unfolding only
  nothing u = go (u (row_at t i))
    where
      go : (v : Bool) → cond v ((row_at t i).amount - (row_at t i).settled) 0 ≡ 0
      go true = omega arith
      go false = refl

  no-riser : rises today (row_at t i) ≡ false
  no-riser = go (rises today (row_at t i)) refl
    where
      go : (v : Bool) → rises today (row_at t i) ≡ v → v ≡ false
      go true e = absurd (omega (arith, ltb-true (row_at t i).settled (row_at t i).amount (rising today (row_at t i) e).open-still))
      go false e = refl

  no-fee : length (fee_row (schedule_from h header_schedule) today (i + 1) (row_at t i)) ≡ 0
  unfolding fee_row
  no-fee = rw no-riser refl

  ends-not : hold_ends today (row_at t i) ≡ false
  unfolding hold_ends
  ends-not = rw free refl

  pub rows-spent : (c : RowCounts) → RowsCounted h t today c i → RowsCounted h t today c (i + 1)
  rows-spent c w = record {
    day = w.day;
    sums = record {
      moneys = tallied-skip money_of slot_count t c.remains.money i w.sums.moneys (λ n b. nothing (source_of n));
      owings = tallied-skip owed_of slot_count t c.remains.owed i w.sums.owings (λ n b. nothing (debit_of n));
    };
    held = share-skipped (stays_of today) (λ r. held_toll r && not (hold_ends today r)) (λ r. 1) (share-counted (λ r. held_toll r && not (hold_ends today r))) t c.stays i w.held (rw free refl);
    ends = share-skipped (ends_of today) (hold_ends today) (λ r. 1) (share-counted (hold_ends today)) t c.ends i w.ends ends-not;
    fees = omega (arith, w.fees, no-fee, length-gather-tabulate (fee_row (schedule_from h header_schedule) today) (row_at t) i);
    few = omega (arith, w.few);
    ending = rw (exists-more h t today i (hold_ends today) i, ends-not, ← w.ending) (sym (or-false c.ending));
    marks = marked-past today t c.marks i w.marks no-riser;
  }

-- a held toll of a sound book has something left
pub held-open : (t : Tables) → sound_tables t ≡ true → HeldOpen t.journal (rows_used t)
held-open t s =
    let b = book_of t in
    midway-each b.day t (sound-midway t s) (λ r. held_toll r ≡ true → unsettled r ≡ true) (λ k l e.
    let r = get_or b.rows k blank in
    let kind : r.kind ≡ kind_toll = eqb-true r.kind 1 (and_left (eqb r.kind 1) (eqb r.dispute 1) e) in
    let disp : r.dispute ≡ 1 = eqb-true r.dispute 1 (and_right (eqb r.kind 1) (eqb r.dispute 1) e) in
    let w : HeldToll b.day b.schedule.stage r = held-is b.day b.schedule.stage r kind disp ((sound-book t s).near.live k l).hold in
    w.open-still)

-- so a settled one is none
pub held-not : (r : Row) → (held_toll r ≡ true → unsettled r ≡ true) → r.settled ≡ r.amount → held_toll r ≡ false
held-not r f e = go (held_toll r) refl
  where
    go : (v : Bool) → held_toll r ≡ v → v ≡ false
    go true h = absurd (omega (arith, ltb-true r.settled r.amount (f h)))
    go false h = refl

-- ---- the accounts tested one by one

module _ (c : RowCounts) (t : List ℤ) where
  -- what the test of account i comes to
  abbrev pub ClosesIs : Bool → ℕ → Type 0
  ClosesIs b i = close_at c (i + 1) (account_at t i) ≡ b

  module _ (n : ℕ) where
    abbrev range : List ℕ
    range = range_with_len 0 n

    -- where the answer is no, it is no at each account
    pub none-by : (b : Bool) → MatchBool b ((k : ℕ) × (k < length range) × HoldsAt (ClosesIs true) range k) (AllWithin (ClosesIs false) range 0 (length range))
        → b ≡ false → NoneClosesBy c t n
    none-by b f e k h =
        let number : get_or range k 0 ≡ k = get_or-range_with_len 0 n k 0 h ∙ omega arith in
        rw number at (MatchBool-at_false _ _ e f k 0 (omega arith) (rw length-range_with_len h))

-- on another day none does
none-off : (b : Book) → business_day b.holidays (b.day + 1) ≡ false → NoneCloses b
unfolding will_close
none-off b e k h = let p : Bool = (get_or b.accounts k unused).state is state_pending in rw (e, and-false p) refl

-- ---- the refunds counted are those of the definition

module _ (b : Book) (t : List ℤ) (c : RowCounts) (day : c.today ≡ b.day + 1) (n : ℕ) (rows : b.rows ≡ rows_of t n)
    (s : Tallied (stays_of (b.day + 1)) slot_count t c.stays n) (r : Remainders t c.remains n) (few : length b.accounts ≤ 256)
    (due : business_day b.holidays (b.day + 1) ≡ true) where
  zero_test : (m : ℕ) → eqb m 0 ≡ not (ltb 0 m)
  zero_test zero = refl
  zero_test (suc m) = rw (lt-ltb 0 (suc m) (omega arith)) (ne_eqb (suc m) 0 (λ q. omega arith))

  test : (p d : Bool) (m : ℕ) (q : Bool) → p && d && eqb m 0 && q ≡ p && true && d && not (ltb 0 m) && q
  test p d m q = rw (zero_test m, and-true)

  refund-at : (k : ℕ) → k < slot_count → (x : Account) → refunds_at c k x ≡ will_refund b k x
  unfolding refunds_at refund_by will_refund days_over exists count counted stays_held money owed
  refund-at k h x = rw (day, due, s.each k h, r.moneys.each k h, r.owings.each k h, rows) (test (x.state is state_pending) (leb (x.request + closing_days) (b.day + 1)) (sum_by (stays_of (b.day + 1) k) (rows_of t n)) (ltb (sum_by (owed_of k) (rows_of t n)) (sum_by (money_of k) (rows_of t n))))

  close-told : (k : ℕ) → k < slot_count → (x : Account) → close_at c k x ≡ will_close b k x
  unfolding close_at close_by will_close days_over exists count counted stays_held money owed
  close-told k h x = rw (day, due, s.each k h, r.moneys.each k h, r.owings.each k h, rows) (test (x.state is state_pending) (leb (x.request + closing_days) (b.day + 1)) (sum_by (stays_of (b.day + 1) k) (rows_of t n)) (leb (sum_by (owed_of k) (rows_of t n)) (sum_by (money_of k) (rows_of t n))))

  pub none-closes : (a : List ℤ) (m : ℕ) → b.accounts ≡ accounts_of a m → NoneClosesBy c a m → NoneCloses b
  none-closes a m e z k h =
      let l : k < m = omega (arith, ap length e, length-tabulate (account_at a) m) in
      let x : get_or b.accounts k unused ≡ account_at a k = rw e (tabulate-at (account_at a) m k unused l) in
      let q : close_at c (suc k) (account_at a k) ≡ false = rw (add-one k) at (z k l) in
      sym (close-told (suc k) (omega arith) (get_or b.accounts k unused)) ∙ rw x q

  pub refunds-counted : length (gather (refund_at c) b.accounts) ≡ refunds_added b
  unfolding refunds_added refund_at
  refunds-counted =
      length-gather-same (refund_at c) (λ k x. one (will_refund b k x) blank) 1 b.accounts unused
      (λ k j e h. rw (refund-at k (omega arith) (get_or b.accounts j unused)))

-- ---- the plan, over sound tables

module _ (t : Tables) (s : sound_tables t ≡ true) (c : RowCounts) (w : RowsCounted t.header t.journal (word t.header day_place + 1) c (rows_used t)) where
  fees-told : c.fees ≡ fees_added (book_of t)
  unfolding fees_added
  fees-told = rw (sound-rows t s, ← schedule-read t s, ← day-read t s) w.fees

  ending-told : c.ending ≡ exists (hold_ends ((book_of t).day + 1)) (book_of t).rows
  ending-told = rw (sound-rows t s, ← day-read t s) w.ending

  accounts-same : (book_of t).accounts ≡ accounts_of t.accounts (accounts_in t)
  unfolding book_of
  accounts-same = refl

  few : length (book_of t).accounts ≤ 256
  few = accounts-le (book_of t).day (book_of t) (sound-book t s).near

  day : c.today ≡ (book_of t).day + 1
  day = rw (day-read t s) at w.day

  holidays-same : holidays_in t ≡ (book_of t).holidays
  holidays-same = unfold book_of in refl

  -- no account closes: the day is no business day, or none is ready
  pub quiet-planned : (business_day (holidays_in t) c.today ≡ true → NoneClosesBy c t.accounts (accounts_in t))
      → Planned (book_of t) (record { added = c.fees; ending = c.ending; closing = false })
  quiet-planned z =
      let n : NoneCloses (book_of t) = go (business_day (book_of t).holidays ((book_of t).day + 1)) refl in
      record {
        added = omega (arith, fees-told, no-refunds (book_of t) n);
        few = omega (arith, w.few, used-small t s);
        ending = ending-told;
        closing = λ e. n;
        business = λ e. absurd (false≢true e);
      }
    where
      go : (v : Bool) → business_day (book_of t).holidays ((book_of t).day + 1) ≡ v → NoneCloses (book_of t)
      go true e =
          none-closes (book_of t) t.journal c day (rows_used t) (sound-rows t s) (rw (day-read t s) at w.held) w.sums few e t.accounts (accounts_in t) accounts-same (z (rw (day, holidays-same) e))
      go false e = none-off (book_of t) e

  -- one closes, on a business day
  module _ (due : business_day (holidays_in t) c.today ≡ true) (refunds : ℕ) (g : refunds ≡ length (gather (refund_at c) (accounts_of t.accounts (accounts_in t)))) (l : refunds ≤ accounts_in t) where
    due-told : business_day (book_of t).holidays ((book_of t).day + 1) ≡ true
    due-told = rw (day, holidays-same) at due

    refunds-told : refunds ≡ refunds_added (book_of t)
    refunds-told =
        rw (← accounts-same) at g
        ∙ refunds-counted (book_of t) t.journal c day (rows_used t) (sound-rows t s) (rw (day-read t s) at w.held) w.sums few due-told

    pub added-few : c.fees + refunds ≤ most_rows + most_accounts
    added-few = omega (arith, w.few, used-small t s, count_small t s)

    pub tick-planned : Planned (book_of t) (record { added = c.fees + refunds; ending = c.ending; closing = true })
    tick-planned = record { added = omega (arith, fees-told, refunds-told); few = added-few; ending = ending-told; closing = λ e. absurd (true≢false e); business = λ e. due-told }
