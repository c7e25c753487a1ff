-- What a reader of the tables midway through a tick knows, and one step after another.
use mathlib.Core.Path.{◌≡◌, ap, ◌∙◌}
use mathlib.Core.Bool.{Bool, true, false, ◌&&◌}
use Prim.Native.Nat.{ℕ, ◌*◌, ◌/◌, ◌%◌, ◌≤◌, ◌<◌, min}
use mathlib.Core.List.{map}
use native.Mathlib.Omega.{arith}
use lib.ListN.{length, get_or}
use lib.Dec.{eqb}
use borrow.Author.Tests.{leb-true, eqb-true, not-true}
use Rattle.lists.specs.Tests.{◌is◌}
use Rattle.lists.proofs.TestLaws.{and_left, all_of-at}
use Rattle.lists.proofs.ListLaws.{tabulate-at, length-tabulate}
use Rattle.records.specs.Layout.{header_width, row_width, account_width}
use Rattle.records.specs.Encoding.{nat_of, row_at, rows_of, account_at}
use Rattle.records.specs.Limits.{most_rows, most_accounts, highest_refund}
use Rattle.rules.specs.Rows.{Row, blank}
use Rattle.rules.specs.Book.{Book, account_no}
use Rattle.rules.specs.Opening.{sizes_fit}
use Rattle.rules.specs.Soundness.{kind_fits, account_used}
use Rattle.rules.specs.Tables.{Tables, accounts_in, room_in, rows_used, book_of, whole_records, lengths_fit, used_fits, sound_tables}
use Rattle.rules.proofs.StorableLaws.{amount-le, settled-le, used-inside, accounts-le, room-le}
use Rattle.rules.proofs.TableLaws.{sound-book}
use Rattle.posting.specs.Written.{Written}
use Rattle.posting_laws.proofs.HeaderLaws.{schedule-same, lists-same}
use Rattle.account_sums.specs.Tallies.{Countable}
use Rattle.tick_base.specs.Midway.{Midway}

-- ---- a step after a step

pub written-written : (t u v : Tables) (b c : Book) → Written t u b → Written u v c → Written t v c
written-written t u v b c f g = record {
  header-size = g.header-size ∙ f.header-size;
  accounts-size = g.accounts-size ∙ f.accounts-size;
  journal-size = g.journal-size ∙ f.journal-size;
  day = g.day;
  used = g.used;
  fixed = λ k l. g.fixed k l ∙ f.fixed k l;
  schedule = g.schedule ∙ schedule-kept;
  lists = g.lists ∙ lists-kept;
  holidays = g.holidays ∙ holidays-kept;
  same-holidays = g.same-holidays ∙ f.same-holidays;
  accounts = rw f.accounts-size at g.accounts;
  rows = g.rows;
  room = g.room ∙ ap (λ (n : ℕ). n / row_width) f.journal-size;
  longer = omega (arith, f.longer, f.used, g.longer);
  rest = λ k h. g.rest k h ∙ f.rest k (omega (arith, f.used, g.longer));
}
  where
    schedule-kept : (book_of u).schedule ≡ (book_of t).schedule
    schedule-kept = unfold book_of in (schedule-same t.header u.header f.fixed)

    holidays-kept : (book_of u).holidays ≡ (book_of t).holidays
    holidays-kept = unfold book_of in (ap (map nat_of) f.same-holidays)

    lists-kept : (book_of u).lists ≡ (book_of t).lists
    lists-kept = unfold book_of in (lists-same t.header u.header f.fixed)

-- ---- sound tables are such

pub sound-midway : (t : Tables) → sound_tables t ≡ true → Midway (book_of t).day t
unfolding sound_tables
sound-midway t s = let p = all_of-at _ s in record { lengths = p 0; used = p 1; near = (sound-book t s).near }

-- ---- what is read

module _ (past : ℕ) (t : Tables) (m : Midway past t) where
  sizes : whole_records t ≡ true
  unfolding lengths_fit
  sizes = and_left (whole_records t) (sizes_fit (accounts_in t) (room_in t)) m.lengths

  pub midway-header : length t.header ≡ header_width
  unfolding whole_records
  midway-header =
      let a : Bool = length t.header is header_width in
      let b : Bool = length t.accounts % account_width is 0 in
      eqb-true (length t.header) header_width (and_left a b (and_left (a && b) _ sizes))

  pub midway-used : rows_used t ≤ room_in t
  unfolding used_fits
  midway-used = leb-true (rows_used t) (room_in t) m.used

  pub midway-rows : (book_of t).rows ≡ rows_of t.journal (rows_used t)
  unfolding book_of
  midway-rows = let e : min (rows_used t) (room_in t) ≡ rows_used t = omega (arith, midway-used) in rw e

  pub midway-length : length (book_of t).rows ≡ rows_used t
  midway-length = rw midway-rows (length-tabulate (row_at t.journal) (rows_used t))

  pub midway-room : rows_used t * row_width ≤ length t.journal
  midway-room = omega (arith, midway-used)

  pub midway-few : rows_used t ≤ most_rows
  unfolding book_of
  midway-few = omega (arith, midway-used, room-le past (book_of t) m.near)

  pub midway-count : accounts_in t ≤ most_accounts
  unfolding book_of
  midway-count = let l = accounts-le past (book_of t) m.near in rw (length-tabulate (account_at t.accounts) (accounts_in t)) at l

  pub midway-row : (k : ℕ) → k < rows_used t → get_or (book_of t).rows k blank ≡ row_at t.journal k
  midway-row k h = rw midway-rows (tabulate-at (row_at t.journal) (rows_used t) k blank h)

  -- a fact of the book's rows is one of the journal's
  pub midway-each : (P : Row → Type 0) → ((k : ℕ) → k < length (book_of t).rows → P (get_or (book_of t).rows k blank)) → (k : ℕ) → k < rows_used t → P (row_at t.journal k)
  midway-each P f k h = rw (midway-row k h) at (f k (rw midway-length h))

  account-small : (k : ℕ) → k < length (book_of t).rows → (get_or (book_of t).rows k blank).account ≤ most_accounts
  unfolding account_used
  account-small k h =
      let e : eqb (account_no (book_of t).accounts (get_or (book_of t).rows k blank).account).state 0 ≡ false = not-true _ (m.near.shape k h).account in
      omega (arith, used-inside (book_of t).accounts (get_or (book_of t).rows k blank).account e, accounts-le past (book_of t) m.near)

  pub midway-countable : Countable t.journal (rows_used t)
  midway-countable = record {
    room = midway-room;
    few = midway-few;
    kind = midway-each (λ r. kind_fits r ≡ true) (λ k h. (m.near.shape k h).kind);
    account = midway-each (λ r. r.account ≤ most_accounts) account-small;
    amount = midway-each (λ r. r.amount ≤ highest_refund) (λ k h. amount-le (get_or (book_of t).rows k blank) (m.near.shape k h).amount);
    settled = midway-each (λ r. r.settled ≤ r.amount) (λ k h. settled-le (get_or (book_of t).rows k blank) (m.near.live k h).settled);
  }
