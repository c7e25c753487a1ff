-- Laws of the end of holds: a released row fits, the accounts settled are those of which a hold has ended and that have money.
use mathlib.Core.Path.{◌≡◌, refl, sym, ap, ◌∙◌}
use mathlib.Core.Bool.{Bool, true, false, cond}
use Prim.Native.Nat.{ℕ, zero, suc, ◌+◌, ◌-◌, ◌^◌, ◌≤◌, ◌<◌}
use native.Mathlib.Omega.{arith}
use native.Mathlib.Numerals.{add-one}
use mathlib.Core.List.{List}
use lib.IntN.{ℤ}
use lib.ListN.{length, get_or}
use lib.Dec.{eqb}
use borrow.Author.Tests.{eqb-true}
use Rattle.records.specs.Codes.{kind_toll}
use Rattle.lists.specs.Tests.{◌is◌}
use Rattle.lists.specs.Lists.{count, exists}
use Rattle.lists.proofs.TestLaws.{and_left, and_right}
use Rattle.lists.proofs.ListLaws.{tabulate-at}
use Rattle.records.specs.Layout.{day_place}
use Rattle.records.specs.Encoding.{word, row_at, rows_of, StorableRow}
use Rattle.records.specs.Limits.{hold_days}
use Rattle.rules.specs.Rows.{Row, blank, held_toll}
use Rattle.rules.specs.Events.{release}
use Rattle.rules.specs.Settlement.{money, settle}
use Rattle.rules.specs.Book.{Book}
use Rattle.rules.specs.Tick.{hold_ends, end_hold}
use Rattle.rules.specs.Tables.{Tables, accounts_in, rows_used, book_of, sound_tables}
use Rattle.rules.proofs.AllocationLaws.{bare}
use Rattle.rules.proofs.SettlementLaws.{settle-row}
use Rattle.rules.proofs.TableLaws.{sound-book, sound-rows}
use Rattle.rules.proofs.StorableLaws.{row-storable, day-le, stage-le}
use Rattle.preservation.proofs.DisputeKept.{HeldToll, held-is}
use Rattle.preservation.proofs.TickSteps.{ended, ended-rows, end_hold-keeps}
use Rattle.tick_rules.specs.Ticks.{freed, freed_with_money, settle_those}
use Rattle.tick_rules.proofs.FreedLaws.{freed-settled, none-ended}
use Rattle.tables.specs.Changes.{RowIn, RowsMapped}
use Rattle.tables.proofs.ChangeLaws.{mapped-all}
use Rattle.row_passes.specs.Passes.{RowLeft}
use Rattle.settlement.specs.Settling.{Journal, RowsBecome}
use Rattle.posting.proofs.BookLaws.{day-read, used-read, count-read, used-room}
use Rattle.tick_base.specs.Remainders.{counted}
use Rattle.tick_base.proofs.MidwayLaws.{sound-midway, midway-row}
use Rattle.tick_holds.specs.Holds.{Ending, EndingRows, HoldsCounted, pays_by, SettledThose, UnraisedRows}

-- ---- the rows of a sound journal can be released

module _ (t : Tables) (s : sound_tables t ≡ true) where
  abbrev b : Book
  b = book_of t

  module _ (k : ℕ) (l : k < length b.rows) (e : hold_ends (b.day + 1) (get_or b.rows k blank) ≡ true) where
    abbrev r : Row
    r = get_or b.rows k blank

    ending : (r.hold + hold_days ≡ b.day + 1) × HeldToll b.day b.schedule.stage r
    unfolding hold_ends
    ending =
        let h = and_left (held_toll r) (r.hold + hold_days is b.day + 1) e in
        let kind : r.kind ≡ kind_toll = eqb-true r.kind 1 (and_left (eqb r.kind 1) (eqb r.dispute 1) h) in
        let disp : r.dispute ≡ 1 = eqb-true r.dispute 1 (and_right (eqb r.kind 1) (eqb r.dispute 1) h) in
        (eqb-true _ _ (and_right (held_toll r) (r.hold + hold_days is b.day + 1) e), held-is b.day b.schedule.stage r kind disp ((sound-book t s).near.live k l).hold)

    begun : r.hold ≤ b.day + 1
    begun = omega (arith, ending.0)

    fits : StorableRow (release (b.day + 1) r)
    unfolding release
    fits =
        let v = row-storable b.day b (sound-book t s).near k l in
        let d = day-le b.day b (sound-book t s).near in
        let g = stage-le b.day b (sound-book t s).near in
        record {
          kind = v.kind;
          account = v.account;
          day = v.day;
          amount = v.amount;
          settled = v.settled;
          mark = v.mark;
          due = omega (arith, ending.0, ending.1.due-by);
          dispute = omega arith;
          hold = omega arith;
          reference = v.reference;
        }

  pub sound-ending : EndingRows t.journal (rows_used t) (word t.header day_place + 1)
  sound-ending =
      let m = sound-midway t s in
      let each : (k : ℕ) → k < rows_used t → get_or b.rows k blank ≡ row_at t.journal k = midway-row b.day t m in
      let d : word t.header day_place ≡ b.day = day-read t s in
      record {
        room = used-room t s;
        each = λ k h. record {
          begun = λ e. rw (d, ← each k h) (begun k (rw (← used-read t s) h) (rw (d, ← each k h) at e));
          free = λ e. rw (d, ← each k h) (fits k (rw (← used-read t s) h) (rw (d, ← each k h) at e));
        };
      }

-- each row can still be released where those before it have been
pub ending-left : (t u : List ℤ) (used today i : ℕ) → EndingRows t used today → RowLeft t u used i → RowIn u i × Ending today (row_at u i)
ending-left t u used today i e l = (omega (arith, l.inside, l.size, e.room), rw l.same (e.each i l.inside))

-- ---- settlement of some accounts keeps the amounts

settle_those-row : (t : ℕ → Bool) (n : ℕ) (rows : List Row) (i : ℕ) → bare (get_or (settle_those t n rows) i blank) ≡ bare (get_or rows i blank)
unfolding settle_those
settle_those-row t zero rows i = refl
settle_those-row t (suc n) rows i = go (t (suc n)) (settle_those-row t n rows i)
  where
    go : (v : Bool) → bare (get_or (settle_those t n rows) i blank) ≡ bare (get_or rows i blank)
        → bare (get_or (cond v (settle (suc n) (settle_those t n rows)) (settle_those t n rows)) i blank) ≡ bare (get_or rows i blank)
    go true ih = (settle-row (suc n) (settle_those t n rows) i).kept ∙ ih
    go false ih = ih

pub settled-journal : (ends money : List ℕ) (n : ℕ) (t u : List ℤ) (used : ℕ) → Journal t used → SettledThose ends money n t u used → Journal u used
settled-journal ends money n t u used j s =
    record {
      room = rw s.size j.room;
      amounts = λ k h.
          let f : ℕ → Bool = pays_by ends money in
          let e : get_or (rows_of u used) k blank ≡ row_at u k = tabulate-at (row_at u) used k blank h in
          let g : get_or (rows_of t used) k blank ≡ row_at t k = tabulate-at (row_at t) used k blank h in
          let a : (row_at u k).amount ≡ (row_at t k).amount = rw (← e, ← g, s.rows) (ap (λ (r : Row). r.amount) (settle_those-row f n (rows_of t used) k)) in
          rw a (j.amounts k h);
    }

pub mapped-journal : (today : ℕ) (t u : List ℤ) (used : ℕ) → Journal t used → RowsMapped (end_hold today) t u used → Journal u used
mapped-journal today t u used j m = record {
  room = rw m.size j.room;
  amounts = λ k h. rw (m.done k h, end_hold-keeps (λ r. r.amount) (λ r d. unfold release in refl) today (row_at t k)) (j.amounts k h);
}

-- ---- one account more

pub settled-none : (ends money : List ℕ) (t : List ℤ) (used : ℕ) → SettledThose ends money 0 t t used
unfolding settle_those
settled-none ends money t used = record { size = refl; rows = refl; rest = λ k h. refl }

module _ (ends money : List ℕ) (n : ℕ) (t u : List ℤ) (used : ℕ) (f : SettledThose ends money n t u used) where
  -- it is settled
  pub settled-more : (v : List ℤ) → pays_by ends money (n + 1) ≡ true → RowsBecome u v used (settle (n + 1) (rows_of u used)) → SettledThose ends money (n + 1) t v used
  unfolding settle_those
  settled-more v e g =
      record { size = g.size ∙ f.size; rows = rw (add-one n) (g.rows ∙ rw (f.rows, ← add-one n, e)); rest = λ k h. g.rest k h ∙ f.rest k h }

  -- it is left
  pub settled-less : pays_by ends money (n + 1) ≡ false → SettledThose ends money (n + 1) t u used
  unfolding settle_those
  settled-less e = record { size = f.size; rows = rw (add-one n) (f.rows ∙ rw (← add-one n, e)); rest = f.rest }

-- ---- both steps

module _ (t : Tables) (s : sound_tables t ≡ true) (ends moneys : List ℕ) (u v : List ℤ) (c : HoldsCounted t ends moneys)
    (m : RowsMapped (end_hold (word t.header day_place + 1)) t.journal u (rows_used t)) (d : SettledThose ends moneys (accounts_in t) u v (rows_used t)) (few : accounts_in t ≤ 256) where
  -- the counts and sums tell which accounts have a hold that ended, and money
  freed-counted : (n : ℕ) → n ≤ accounts_in t → pays_by ends moneys n ≡ freed_with_money ((book_of t).day + 1) (book_of t).rows n
  unfolding freed_with_money freed exists count counted money
  freed-counted n h = rw (c.ends.each n (omega arith), c.money.each n (omega arith), sound-rows t s, day-read t s)

  same-those : (f g : ℕ → Bool) (n : ℕ) (rows : List Row) → ((k : ℕ) → k ≤ n → f k ≡ g k) → settle_those f n rows ≡ settle_those g n rows
  unfolding settle_those
  same-those f g zero rows e = refl
  same-those f g (suc n) rows e = rw (same-those f g n rows (λ k h. e k (omega arith)), e (suc n) (omega arith))

  ended-written : rows_of u (rows_used t) ≡ ended (book_of t)
  ended-written = mapped-all row_at (end_hold (word t.header day_place + 1)) t.journal u (rows_used t) m ∙ rw (ended-rows (book_of t), sound-rows t s, day-read t s)

  pub unraised-written : UnraisedRows t v
  unraised-written = record {
    size = d.size ∙ m.size;
    rows = d.rows ∙ rw ended-written (same-those (pays_by ends moneys) (freed_with_money ((book_of t).day + 1) (book_of t).rows) (accounts_in t) (ended (book_of t)) freed-counted
        ∙ rw (count-read t s) (sym (freed-settled (book_of t) (sound-book t s))));
    rest = λ k h. d.rest k h ∙ m.left k h;
  }

-- where no hold ends, the journal as it was is what the steps would leave
pub unraised-same : (t : Tables) → sound_tables t ≡ true → exists (hold_ends ((book_of t).day + 1)) (book_of t).rows ≡ false → UnraisedRows t t.journal
unraised-same t s z =
    let r : rows_of t.journal (rows_used t) ≡ (book_of t).rows = sym (sound-rows t s) in
    record { size = refl; rows = r ∙ sym (none-ended (book_of t) (sound-book t s) z); rest = λ k h. refl }

-- ---- one row released

pub release-due : (today : ℕ) (r : Row) → StorableRow (release today r) → r.due + (today - r.hold) < 2 ^ 63
unfolding release
release-due today r s = s.due
