-- The fourth step of a tick, turn after turn: the rows used after each, and the book at the end.
use mathlib.Core.Path.{◌≡◌, refl, sym, ◌∙◌, ap}
use mathlib.Core.Bool.{Bool, true, false, cond}
use Prim.Native.Nat.{ℕ, ◌+◌, ◌*◌, ◌/◌, ◌≤◌, ◌<◌}
use native.Mathlib.Omega.{arith}
use mathlib.Core.List.{List}
use lib.ListN.{length, get_or}
use mir.Val.{bool_byte}
use Rattle.lists.proofs.TestLaws.{byte-one}
use lib.IntN.{ℤ}
use Rattle.records.specs.Layout.{day_place, used_place, row_width}
use Rattle.records.specs.Encoding.{word, row_at, rows_of, StorableRow}
use Rattle.lists.specs.Lists.{sum_by, count, tabulate, gather}
use Rattle.lists.proofs.ListLaws.{length-tabulate}
use Rattle.lists.proofs.SumLaws.{sum_by-more, count-le}
use Rattle.lists.proofs.GatherLaws.{length-gather-tabulate, length-gather-le}
use Rattle.lists.proofs.PassLaws.{passed_to, passed_none, passed-all, passed-more, passed-at, length-passed}
use Rattle.records.specs.Limits.{most_rows}
use Rattle.rules.specs.Rows.{Row, blank, with_mark, with_due}
use Rattle.rules.specs.Book.{Book}
use Rattle.rules.specs.Tick.{rises, raise, fee_row, raise_tolls}
use Rattle.rules.specs.Tables.{Tables, rows_used, room_in, book_of}
use Rattle.rules.proofs.StorableLaws.{day-le, stage-le, row-storable, schedule-storable}
use Rattle.preservation.proofs.FeeLaws.{stage_fee-le}
use Rattle.preservation.proofs.TickSteps.{rising}
use Rattle.posting.specs.Posts.{tables_over}
use Rattle.posting.specs.Written.{Written}
use Rattle.posting.specs.Written.{UsedRows}
use Rattle.posting_laws.proofs.UsedRowsLaws.{rows_before, rows_row, rows-schedule, rows_written}
use Rattle.tick_base.specs.Midway.{Midway}
use Rattle.tick_base.proofs.MidwayLaws.{midway-header, midway-rows, midway-few, midway-each}
use Rattle.tick_plan.specs.Marks.{block_rows, Marked}
use Rattle.tick_raise.specs.Raising.{schedule_of, stage_fee_row, Raisable, RowRaised}

-- ---- the rows used after i turns

abbrev pub raised_to : Tables → ℕ → List Row
raised_to t = passed_to (raise (book_of t).schedule (book_of t).day) (fee_row (book_of t).schedule (book_of t).day) (row_at t.journal) (rows_used t)

-- the header and the journal after i turns; n tolls were raised
pub record Turns (t : Tables) (today : ℕ) (h j : List ℤ) (n i : ℕ) : Type 0 where
  pub within : i ≤ rows_used t
  pub counted : n ≡ count (rises today) (rows_of t.journal i)
  pub rows : UsedRows t h j (raised_to t i)

module _ (past : ℕ) (t : Tables) (m : Midway past t) where
  abbrev b : Book
  b = book_of t

  abbrev r : ℕ → Row
  r = row_at t.journal

  abbrev f : Row → Row
  f = raise b.schedule b.day

  abbrev g : ℕ → Row → List Row
  g = fee_row b.schedule b.day

  -- ---- what is written can be

  storable-at : (k : ℕ) → k < rows_used t → StorableRow (r k)
  storable-at = midway-each past t m StorableRow (row-storable past b m.near)

  raise-storable : (x : Row) → StorableRow x → StorableRow (raise b.schedule b.day x)
  unfolding raise
  raise-storable x w = go (rises b.day x) refl
    where
      go : (v : Bool) → rises b.day x ≡ v → StorableRow (cond v (with_due (x.due + b.schedule.stage) (with_mark (x.mark + 1) x)) x)
      go true e =
          let p = rising b.day x e in
          record {
            kind = w.kind;
            account = w.account;
            day = w.day;
            amount = w.amount;
            settled = w.settled;
            mark = omega (arith, p.under);
            due = omega (arith, p.due, day-le past b m.near, stage-le past b m.near);
            dispute = w.dispute;
            hold = w.hold;
            reference = w.reference;
          }
      go false e = w

  fee-storable : (i : ℕ) → i < rows_used t → StorableRow (stage_fee_row b.schedule b.day i (r i))
  fee-storable i l = record {
    kind = omega arith;
    account = (storable-at i l).account;
    day = omega (arith, day-le past b m.near);
    amount = omega (arith, stage_fee-le b.schedule (schedule-storable b.schedule m.near.schedule) ((r i).mark + 1));
    settled = omega arith;
    mark = omega arith;
    due = omega arith;
    dispute = omega arith;
    hold = omega arith;
    reference = omega (arith, midway-few past t m);
  }

  -- ---- the turns

  module _ (fits : length (raise_tolls b).rows ≤ room_in t) (today : ℕ) (d : today ≡ word t.header day_place) where
    rows-raised : (raise_tolls b).rows ≡ raised_to t (rows_used t)
    unfolding raise_tolls
    rows-raised = rw (midway-rows past t m) (sym (passed-all f g r (rows_used t)))

    today-read : today ≡ b.day
    unfolding book_of
    today-read = d

    pub turns-none : Turns t today t.header t.journal 0 0
    unfolding count tabulate sum_by
    turns-none = record {
      within = omega arith;
      counted = refl;
      rows = rw (passed_none f g r (rows_used t)) (rows_before t);
    }

    module _ (h j : List ℤ) (n i : ℕ) (v : Turns t today h j n i) where
      u : UsedRows t h j (raised_to t i)
      u = v.rows

      module _ (l : i < rows_used t) where
        row_now : row_at j i ≡ r i
        row_now = rows_row t h j (raised_to t i) u i (omega (arith, length-passed f g r (rows_used t) i)) ∙ passed-at f g r (rows_used t) i blank l

        schedule-now : schedule_of h ≡ b.schedule
        schedule-now = rows-schedule t h j (raised_to t i) u

        room-now : (word h used_place + length (g (i + 1) (r i))) * row_width ≤ length j
        room-now =
            let q : length (gather g (tabulate r (i + 1))) ≤ length (gather g (tabulate r (rows_used t))) = length-gather-le g r (i + 1) (rows_used t) (omega arith) in
            omega (arith, u.used, u.journal-size, length-passed f g r (rows_used t) i, length-passed f g r (rows_used t) (rows_used t), length-gather-tabulate g r i, rw rows-raised at fits)

        pub turn-raisable : Raisable h j i today
        turn-raisable = record {
          header = u.header-size ∙ midway-header past t m;
          used = omega (arith, u.used, length-passed f g r (rows_used t) i);
          room = rw (row_now, schedule-now, today-read) room-now;
          row = rw (row_now, schedule-now, today-read) (raise-storable (r i) (storable-at i l));
          fee = rw (row_now, schedule-now, today-read) (fee-storable i l);
        }

        -- its block has no mark: the row, which is as it was, does not rise
        pub turn-marked : (marks : List ℕ) → Marked (word t.header day_place) t.journal marks (rows_used t) → (mark : ℕ) → mark ≡ get_or marks (i / block_rows) 0
            → mark ≡ 0 → rises today (row_at j i) ≡ false
        turn-marked marks m mark e z = rw (row_now, d) (m.none i l (sym e ∙ z))

        module _ (h' j' : List ℤ) (k : Bool) (w : RowRaised h h' j j' i today k) where
          pub turns_more : Turns t today h' j' (n + bool_byte k) (i + 1)
          turns_more = record {
            within = omega arith;
            counted = unfold count in (rw (sum_by-more (λ x. cond (rises today x) 1 0) r i, ← v.counted, ← row_now, ← w.told) (ap (λ m. n + m) (byte-one k)));
            rows = rw (row_now, schedule-now, today-read, passed-more f g r (rows_used t) i l) at (w.rows t (raised_to t i) u);
          }

      -- no more tolls than rows
      pub turns-few : n ≤ most_rows
      turns-few = omega (arith, v.counted, v.within, count-le (rises today) (rows_of t.journal i), length-tabulate r i, midway-few past t m)

      -- ---- at the end

      module _ (e : i ≡ rows_used t) where
        pub turns-counted : n ≡ count (rises (word t.header day_place)) b.rows
        turns-counted = v.counted ∙ rw (d, e, midway-rows past t m)

        pub turns-written : Written t (tables_over t h t.accounts j) (raise_tolls b)
        unfolding raise_tolls book_of
        turns-written =
            rw rows-raised (rows_written t h j (raised_to t (rows_used t)) (rw e at u) t.accounts b.accounts refl refl)
