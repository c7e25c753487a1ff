-- An accepted event 9, step by step: the tables after each step hold the book after it.
use mathlib.Core.Path.{◌≡◌, refl, sym, ◌∙◌}
use mathlib.Core.Logic.{◌≢◌}
use mathlib.Core.Bool.{true, false}
use Prim.Native.Nat.{ℕ, suc, ◌+◌, ◌-◌, ◌/◌, ◌≤◌, ◌<◌}
use native.Mathlib.Omega.{arith}
use mathlib.Core.List.{List}
use lib.ListN.{length, get_or, set, length-set}
use lib.IntN.{ℤ, pos}
use borrow.Author.Tests.{eqb-false, ltb-false}
use Rattle.records.specs.Codes.{event_tick}
use Rattle.records.specs.Layout.{header_width, day_place, used_place, row_width}
use Rattle.records.specs.Encoding.{word, row_at}
use Rattle.lists.specs.Tests.{◌is◌}
use Rattle.lists.specs.Lists.{count}
use Rattle.records.specs.Limits.{final_day}
use Rattle.rules.specs.BusinessDays.{business_day}
use Rattle.rules.specs.Book.{unused, Instruction, Book, settled}
use Rattle.rules.specs.Tick.{next_day, end_holds, before_raising, rises, raise_tolls, raised_by, closes, close_accounts}
use Rattle.rules.specs.Refusals.{after, last_day, full, answer_number}
use Rattle.rules.specs.Posting.{new_rows, removes_topup, acceptance}
use Rattle.rules.specs.Tables.{Tables, room_in, rows_used, holidays_in, book_of, sound_tables}
use Rattle.rules.proofs.TableLaws.{sound-book, header-length}
use Rattle.tables.proofs.ChangeLaws.{word_same, word-other}
use Rattle.preservation.proofs.Accepted.{Accepted, accepted}
use Rattle.preservation.proofs.HoldsEnded.{before_raising-near}
use Rattle.tick_rules.specs.Ticks.{fees_added, refunds_added}
use Rattle.preservation.proofs.TickSteps.{unraised-length}
use Rattle.tick_rules.proofs.LateLaws.{late}
use Rattle.tick_rules.proofs.RefundLaws.{none-closing}
use Rattle.tick_rules.proofs.QuietLaws.{near-late, after-tick}
use Rattle.tick_rules.proofs.CountLaws.{rows-after, late-fits}
use Rattle.posting.specs.Posts.{tables_over, acceptance_of, Posts}
use Rattle.posting.proofs.BookLaws.{day-read, used-read, room-read}
use Rattle.posting_laws.proofs.AddedLaws.{posts-accepted}
use Rattle.posting_laws.proofs.WrittenLaws.{written-book}
use Rattle.posting.specs.Written.{Written}
use Rattle.tick_base.specs.Midway.{Midway}
use Rattle.tick_base.proofs.MidwayLaws.{written-written, sound-midway, midway-row}
use Rattle.tick_plan.specs.Marks.{Marked}
use Rattle.tick_rules.proofs.RisingLaws.{rises-same}
use Rattle.lists.proofs.ListLaws.{tabulate-at}
use Rattle.rules.specs.Rows.{blank}
use Rattle.tick_plan.specs.declared.Plan.{Plan}
use Rattle.tick_plan.specs.Plans.{Planned}
use Rattle.tick_holds.specs.Holds.{UnraisedRows}
use Rattle.event_tick.specs.TickEvent.{Closes}
use Rattle.event_tick.proofs.TickLaws.{written-midway}

module _ (t : Tables) (s : sound_tables t ≡ true) (e : Instruction) (k : e.kind ≡ event_tick) (q : 0 ≡ answer_number (book_of t) e) where
  abbrev b : Book
  b = book_of t

  acc : Accepted b e
  acc = accepted b e (sym q)

  not_last : b.day ≢ final_day
  unfolding last_day
  not_last = let l : b.day is final_day ≡ false = rw k at acc.later in eqb-false b.day final_day l

  -- its rows fit
  rows_fit : length b.rows + fees_added b + refunds_added b ≤ b.room
  unfolding full
  rows_fit = omega (arith, rows-after b (sound-book t s) not_last e k, ltb-false b.room (length (after b e).rows) acc.fits)

  fits-late : length (late (before_raising b)) ≤ b.room
  fits-late = late-fits b (sound-book t s) not_last rows_fit

  the-book-after : after b e ≡ close_accounts (raise_tolls (before_raising b))
  the-book-after = after-tick b (sound-book t s) not_last fits-late e k

  fits_after : length (close_accounts (raise_tolls (before_raising b))).rows ≤ b.room
  fits_after = rw (← the-book-after) (omega (arith, rows-after b (sound-book t s) not_last e k, rows_fit))

  -- ---- holds have ended, the day has risen

  module _ (j : List ℤ) (d : UnraisedRows t j) where
    abbrev pub header₁ : List ℤ
    header₁ = set t.header day_place (pos (word t.header day_place + 1))

    abbrev pub unraised-tables : Tables
    unraised-tables = tables_over t header₁ t.accounts j

    unraised-rows-length : length (before_raising b).rows ≡ rows_used t
    unraised-rows-length = unraised-length b ∙ sym (used-read t s)

    pub unraised-written : Written t unraised-tables (before_raising b)
    unfolding before_raising settled end_holds next_day
    unraised-written = record {
      header-size = length-set t.header day_place _;
      accounts-size = refl;
      journal-size = d.size;
      day = word_same t.header day_place _ (omega (arith, header-length t s)) ∙ rw (day-read t s);
      used = word-other t.header day_place _ used_place (λ z. omega arith) ∙ sym unraised-rows-length;
      fixed = λ i l. word-other t.header day_place _ i (λ z. omega arith);
      schedule = refl;
      lists = refl;
      holidays = refl;
      same-holidays = refl;
      accounts = unfold book_of in refl;
      rows = rw unraised-rows-length d.rows;
      room = sym (room-read t s);
      longer = omega (arith, unraised-rows-length);
      rest = λ i h. d.rest i (rw unraised-rows-length at h);
    }

    fits-unraised : length (before_raising b).rows ≤ room_in t
    fits-unraised = omega (arith, unraised-rows-length, room-read t s, rows_fit, used-read t s)

    pub unraised-book : book_of unraised-tables ≡ before_raising b
    unraised-book = written-book t unraised-tables (before_raising b) unraised-written fits-unraised

    yesterday : word header₁ day_place - 1 ≡ b.day
    yesterday = let w = word_same t.header day_place (word t.header day_place + 1) (omega (arith, header-length t s)) in omega (arith, day-read t s)

    pub unraised-midway : Midway (word header₁ day_place - 1) unraised-tables
    unraised-midway =
        rw yesterday (written-midway t unraised-tables (before_raising b) b.day (sound-midway t s).lengths unraised-written fits-unraised (before_raising-near b (sound-book t s).near not_last))

    -- neither ended holds nor settlement make a toll rise
    pub unraised-marked : (marks : List ℕ) → Marked (word t.header day_place + 1) t.journal marks (rows_used t)
        → Marked (word header₁ day_place) j marks (word header₁ used_place)
    unraised-marked marks m =
        let used : word header₁ used_place ≡ rows_used t = word-other t.header day_place _ used_place (λ z. omega arith) in
        let now : word header₁ day_place ≡ word t.header day_place + 1 = word_same t.header day_place _ (omega (arith, header-length t s)) in
        record {
          sized = m.sized;
          none = λ k h e.
              let l : k < rows_used t = rw used at h in
              let row : row_at j k ≡ get_or (before_raising b).rows k blank = sym (tabulate-at (row_at j) (rows_used t) k blank l) ∙ rw d.rows in
              let was : get_or b.rows k blank ≡ row_at t.journal k = midway-row b.day t (sound-midway t s) k l in
              let z : rises (b.day + 1) (get_or b.rows k blank) ≡ false = rw (day-read t s, ← was) at (m.none k l e) in
              rw (now, row, day-read t s) (rises-same b (sound-book t s) k (omega (arith, used-read t s)) ∙ z);
        }

    pub unraised-room : length (raise_tolls (book_of unraised-tables)).rows ≤ length j / row_width
    unraised-room = rw (unraised-book, d.size) (omega (arith, fits-late, room-read t s))

    -- ---- tolls have risen

    module _ (u : Tables) (w : Written unraised-tables u (raise_tolls (book_of unraised-tables))) where
      late-written : Written t u (raise_tolls (before_raising b))
      late-written = written-written t unraised-tables u (before_raising b) (raise_tolls (before_raising b)) unraised-written (rw unraised-book at w)

      late-room : length (raise_tolls (before_raising b)).rows ≤ room_in t
      late-room = omega (arith, fits-late, room-read t s)

      late-book : book_of u ≡ raise_tolls (before_raising b)
      late-book = written-book t u (raise_tolls (before_raising b)) late-written late-room

      late-day : word u.header day_place ≡ (before_raising b).day
      late-day = late-written.day ∙ (unfold raise_tolls in refl)

      late-midway : Midway (word u.header day_place) u
      late-midway =
          rw late-day (written-midway t u (raise_tolls (before_raising b)) (before_raising b).day (sound-midway t s).lengths late-written late-room (near-late b (sound-book t s) not_last fits-late))

      closing-room : length (close_accounts (book_of u)).rows ≤ length u.journal / row_width
      closing-room = rw (late-book, late-written.journal-size) (omega (arith, fits_after, room-read t s))

      -- no account closes that was not to
      pub late-closing : (p : Plan) → Planned b p → Closes u p
      late-closing p w = record { midway = late-midway; room = closing-room; business = business; quiet = λ e. rw late-book (quiet e) }
        where
          same-accounts : (raise_tolls (before_raising b)).accounts ≡ b.accounts
          same-accounts = unfold raise_tolls before_raising settled end_holds next_day in refl

          business : p.closing ≡ true → business_day (holidays_in u) (word u.header day_place) ≡ true
          business e = rw (late-written.same-holidays, late-day) (unfold before_raising settled end_holds next_day book_of in (w.business e))

          quiet : p.closing ≡ false → (n : ℕ) → n < length (raise_tolls (before_raising b)).accounts → closes (raise_tolls (before_raising b)) (suc n) (get_or (raise_tolls (before_raising b)).accounts n unused) ≡ false
          quiet e n h =
              let l : n < length b.accounts = rw same-accounts at h in
              none-closing b (sound-book t s) not_last n l (get_or (raise_tolls (before_raising b)).accounts n unused) (rw same-accounts (w.closing e n l))

      -- ---- accounts have closed

      module _ (v : Tables) (x : Written u v (close_accounts (book_of u))) where
        end-written : Written t v (after b e)
        end-written = rw the-book-after (written-written t u v (raise_tolls (before_raising b)) (close_accounts (raise_tolls (before_raising b))) late-written (rw late-book at x))

        end-used : word v.header used_place ≡ length (after b e).rows
        end-used = end-written.used

        pub end-header : length v.header ≡ header_width
        end-header = end-written.header-size ∙ header-length t s

        -- more rows are used than before
        pub end-longer : rows_used t ≤ word v.header used_place
        end-longer = omega (arith, end-used, end-written.longer)

        answer-is : (n : ℕ) → n ≡ count (rises (word header₁ day_place)) (book_of unraised-tables).rows
            → acceptance_of (rows_used t) (word v.header used_place - rows_used t) n 0 ≡ acceptance b e
        unfolding acceptance new_rows raised_by removes_topup
        answer-is n c = rw (end-used, used-read t s, k, c, unraised-book, unraised-written.day)

        pub tick-posts : (n : ℕ) → n ≡ count (rises (word header₁ day_place)) (book_of unraised-tables).rows
            → Posts t v e (acceptance_of (rows_used t) (word v.header used_place - rows_used t) n 0)
        tick-posts n c = posts-accepted t v s e _ q (answer-is n c) end-written
