-- The groups of clauses that the code tests are together rules' sound_tables.
use mathlib.Core.Path.{◌≡◌, refl, sym, ◌∙◌}
use mathlib.Core.Bool.{Bool, true, false, ◌&&◌, and_assoc, and-true, and-false, true≢false}
use Prim.Native.Nat.{ℕ, ◌+◌, ◌/◌, ◌≤◌, min}
use native.Mathlib.Omega.{arith}
use mathlib.Core.List.{List}
use lib.IntN.{ℤ}
use lib.ListN.{length}
use lib.Dec.{leb}
use borrow.Author.Tests.{le-leb}
use Rattle.lists.specs.Tests.{all_of}
use Rattle.lists.specs.Lists.{every}
use Rattle.lists.proofs.TestLaws.{and_left, and_right, and_then}
use Rattle.lists.proofs.ListLaws.{every-ext, every-and, every-tabulate, length-tabulate}
use Rattle.records.specs.Layout.{day_place, used_place, header_schedule, stage_place, account_width, row_width}
use Rattle.records.specs.Encoding.{word, row_at, rows_of, accounts_of}
use Rattle.records.specs.Limits.{final_day, longest_stage}
use Rattle.rules.specs.Schedule.{schedule_fits}
use Rattle.rules.specs.RateLists.{lists_fit}
use Rattle.rules.specs.BusinessDays.{holidays_fit}
use Rattle.rules.specs.Book.{Book}
use Rattle.rules.specs.Opening.{day_fits, sizes_fit}
use Rattle.rules.specs.Soundness.{passage_once, fees_fit, row_sound, returned_fits, used_is_paid, no_idle_money, closed_clear, account_sound, sound}
use Rattle.rules.specs.Tables.{Tables, accounts_in, room_in, rows_used, schedule_from, book_of, whole_records, lengths_fit, used_fits, later_rows_zero, unused_lists_zero, sound_tables}
use Rattle.rules.proofs.HolidayTables.{none-fit}
use Rattle.rules.proofs.StorableLaws.{between_le, schedule-storable}
use Rattle.sound_header.specs.Clauses.{own_words, row_alone, row_passes, rows_stand, rest_zero, three_tables}
use Rattle.sound_journal.specs.declared.frame.Frame.{Frame}
use Rattle.sound_journal.specs.Bounds.{Bounds}
use Rattle.sound_journal.specs.Passing.{frame_accounts, frame_rows}
use Rattle.sound_header.proofs.LengthLaws.{lengths-known}
use Rattle.sound_lists.specs.Standing.{lists_stand}
use Rattle.sound_passages.specs.Trees.{passages_differ}
use Rattle.sound_passages.proofs.PassageLaws.{clean-differ}
use Rattle.sound_fees.specs.Fees.{fees_few}
use Rattle.sound_fees.proofs.FeeLaws.{fees-few}
use Rattle.soundness.specs.Book.{book_passes}
use Rattle.sound_sums.specs.Accounts.{sums_agree, account_passes, sums_at, sums_of, all_agree, accounts_stand}
use Rattle.sound_sums.proofs.AccountLaws.{all-stand}
use Rattle.sound_accounts.specs.Alone.{account_alone}
use Rattle.sound_walk.specs.declared.Arrays.{Arrays}
use Rattle.sound_walk.specs.Walks.{Walked, Unfit}

-- ---- rows and accounts

rows-parts : (b : Book) → every (row_sound b) b.rows ≡ rows_stand b.accounts b.rows b.day b.schedule.stage && (passages_differ b.rows && fees_few b.rows)
unfolding rows_stand passages_differ fees_few
rows-parts b =
    every-ext (row_sound b) (λ n r. row_passes b.accounts b.rows b.day b.schedule.stage n r && (passage_once b.rows r && fees_fit b.rows n r)) 1 b.rows (λ n r.
    unfold row_sound row_passes row_alone own_words all_of in simp (and_assoc, and-true))
    ∙ every-and (row_passes b.accounts b.rows b.day b.schedule.stage) (λ n r. passage_once b.rows r && fees_fit b.rows n r) 1 b.rows
    ∙ rw (every-and (λ n r. passage_once b.rows r) (fees_fit b.rows) 1 b.rows)

accounts-parts : (b : Book) → every (account_sound b) b.accounts ≡ accounts_stand b.day b.rows b.accounts
unfolding accounts_stand all_agree
accounts-parts b =
    every-ext (account_sound b) (λ n x. account_passes b.accounts b.day n (sums_of b.rows n) x) 1 b.accounts (λ n x.
    unfold account_sound account_passes account_alone sums_agree sums_of returned_fits used_is_paid no_idle_money closed_clear all_of in simp (and_assoc, and-true))

pub book-parts : (b : Book) → every (row_sound b) b.rows && every (account_sound b) b.accounts ≡ book_passes b.accounts b.rows b.day b.schedule.stage
unfolding book_passes all_of
book-parts b = rw (rows-parts b, accounts-parts b, and_assoc, and_assoc, and-true)

-- ---- the tables

module _ (t : Tables) where
  pub unfit-lengths : lengths_fit t ≡ false → sound_tables t ≡ false
  unfolding sound_tables all_of
  unfit-lengths e = rw e

  pub unfit-used : used_fits t ≡ false → sound_tables t ≡ false
  unfolding sound_tables all_of
  unfit-used e = rw e (and-false (lengths_fit t))

  pub unfit-later : later_rows_zero t ≡ false → sound_tables t ≡ false
  unfolding sound_tables all_of
  unfit-later e = simp (e, and-false)

  pub unfit-day : day_fits (book_of t).day ≡ false → sound_tables t ≡ false
  unfolding sound_tables sound all_of
  unfit-day e = simp (e, and-false)

  pub unfit-schedule : schedule_fits (book_of t).schedule ≡ false → sound_tables t ≡ false
  unfolding sound_tables sound all_of
  unfit-schedule e = simp (e, and-false)

  unfit-listed : lists_fit (book_of t).lists ≡ false → sound_tables t ≡ false
  unfolding sound_tables sound all_of
  unfit-listed e = simp (e, and-false)

  unfit-unused : unused_lists_zero t ≡ false → sound_tables t ≡ false
  unfolding sound_tables all_of
  unfit-unused e = simp (e, and-false)

  -- the clauses on the rate lists: one is of the book, one of the tables alone
  lists-parts : lists_stand t.header ≡ lists_fit (book_of t).lists && unused_lists_zero t
  unfolding lists_stand book_of unused_lists_zero
  lists-parts = refl

  pub unfit-lists : lists_stand t.header ≡ false → sound_tables t ≡ false
  unfit-lists e = go (lists_fit (book_of t).lists) refl
    where
      go : (v : Bool) → lists_fit (book_of t).lists ≡ v → sound_tables t ≡ false
      go true q = unfit-unused (and_then (lists_fit (book_of t).lists) (unused_lists_zero t) q (sym lists-parts ∙ e))
      go false q = unfit-listed q

  pub fit-tables : lengths_fit t ≡ true → used_fits t ≡ true → later_rows_zero t ≡ true → day_fits (book_of t).day ≡ true → schedule_fits (book_of t).schedule ≡ true
      → lists_stand t.header ≡ true
      → holidays_fit (book_of t).holidays ≡ true
      → sound_tables t ≡ book_passes (book_of t).accounts (book_of t).rows (book_of t).day (book_of t).schedule.stage
  unfolding sound_tables sound all_of
  fit-tables l u z d s w h =
      let p : lists_fit (book_of t).lists && unused_lists_zero t ≡ true = sym lists-parts ∙ w in
      let y : lists_fit (book_of t).lists ≡ true = and_left (lists_fit (book_of t).lists) (unused_lists_zero t) p in
      let q : unused_lists_zero t ≡ true = and_right (lists_fit (book_of t).lists) (unused_lists_zero t) p in
      let n : sizes_fit (length (book_of t).accounts) (book_of t).room ≡ true = sizes-again in
      let f : leb (length (book_of t).rows) (book_of t).room ≡ true = few-again in
      rw (l, u, z, q, d, s, y, n, f, h, and-true) (rest (book_of t))
    where
      sizes-again : sizes_fit (length (book_of t).accounts) (book_of t).room ≡ true
      sizes-again = unfold book_of lengths_fit in (rw (length-tabulate) (and_right (whole_records t) (sizes_fit (accounts_in t) (room_in t)) l))

      few-again : leb (length (book_of t).rows) (book_of t).room ≡ true
      few-again = unfold book_of in (rw (length-tabulate) (le-leb (min (rows_used t) (room_in t)) (room_in t) (omega arith)))

      rest : (b : Book) → every (row_sound b) b.rows && (every (account_sound b) b.accounts && true) ≡ book_passes b.accounts b.rows b.day b.schedule.stage
      rest b = rw (and-true (every (account_sound b) b.accounts)) (book-parts b)

-- ---- what the lengths and the header have shown, on the words that were read

pub record Fit (h a j : List ℤ) (used today stage : ℕ) : Type 0 where
  pub lengths : lengths_fit (three_tables h a j) ≡ true
  pub read_day : today ≡ word h day_place
  pub read_used : used ≡ word h used_place
  pub read_stage : stage ≡ word h (header_schedule + stage_place)
  pub day : day_fits today ≡ true
  pub schedule : schedule_fits (schedule_from h header_schedule) ≡ true
  pub lists : lists_stand h ≡ true
  pub fits : used ≤ length j / row_width
  pub later : rest_zero j used ≡ true

module _ (h a j : List ℤ) (used today stage : ℕ) (f : Fit h a j used today stage) where
  abbrev tables : Tables
  tables = three_tables h a j

  pub fit-sound : book_passes (accounts_of a (length a / account_width)) (rows_of j used) today stage ≡ sound_tables tables
  fit-sound = unfold book_of schedule_from in (rw (f.read_day, f.read_stage, least) (sym (fit-tables tables f.lengths used-fits later-zero day-fits schedule-fits f.lists none-fit)))
    where
      least : used ≡ min (rows_used tables) (room_in tables)
      least = omega (arith, f.read_used, f.fits)

      used-fits : used_fits tables ≡ true
      used-fits = unfold used_fits in le-leb (rows_used tables) (room_in tables) (omega (arith, f.read_used, f.fits))

      later-zero : later_rows_zero tables ≡ true
      later-zero = unfold later_rows_zero rest_zero in (rw f.read_used at f.later)

      day-fits : day_fits (book_of tables).day ≡ true
      day-fits = unfold book_of in (rw f.read_day at f.day)

      schedule-fits : schedule_fits (book_of tables).schedule ≡ true
      schedule-fits = unfold book_of in f.schedule

  pub fit-bounds : Bounds a (length a / account_width) used
  fit-bounds =
      let l = lengths-known h a j f.lengths in
      let b = f.fits in
      record {
        few = omega arith;
        slots = omega arith;
        fewer = omega arith;
      }

  pub fit-term : (today ≤ final_day) × (stage ≤ longest_stage)
  unfolding day_fits schedule_from
  fit-term =
      (between_le 1 final_day today f.day, omega (arith, f.read_stage, (schedule-storable (schedule_from h header_schedule) f.schedule).stage))

-- ---- the rows once they are walked

module _ (f : Frame) where
  abbrev standing : Bool
  standing = book_passes (frame_accounts f) (frame_rows f) f.term.today f.term.stage

  pub unfit-passes : Unfit f → false ≡ standing
  unfolding book_passes all_of
  unfit-passes e = sym (regroup (rows_stand (frame_accounts f) (frame_rows f) f.term.today f.term.stage) (passages_differ (frame_rows f)) (fees_few (frame_rows f)) _ e)
    where
      regroup : (a b c d : Bool) → a && (b && c) ≡ false → a && (b && (c && d)) ≡ false
      regroup true true true d e = absurd (true≢false e)
      regroup true true false d e = refl
      regroup true false c d e = refl
      regroup false b c d e = refl

  -- where the rows have passed, the accounts decide
  module _ {a : Arrays} (w : Walked f a f.rows.used) where
    rows-stand : rows_stand (frame_accounts f) (frame_rows f) f.term.today f.term.stage ≡ true
    unfolding rows_stand
    rows-stand = every-tabulate _ (row_at f.rows.journal.now) f.rows.used w.stood

    passages-differ : passages_differ (frame_rows f) ≡ true
    passages-differ = clean-differ f.rows.journal.now f.rows.used w.trees.clean

    pub sums-decide : all_agree f.term.today (sums_at a.sums.now) (frame_accounts f) ≡ standing
    unfolding book_passes all_of
    sums-decide =
        let b = f.bounds in
        all-stand f.rows.journal.now f.rows.used a.sums.now w.tallies f.term.today f.accounts.now f.count b.fewer
        ∙ rw (rows-stand, passages-differ, fees-few a.space f.rows.journal.now a.counts.now f.rows.used w.held w.fees, and-true)
