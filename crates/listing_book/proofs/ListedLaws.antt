-- What is listed of a sound book: lines one after the other, dates that fit.
use mathlib.Core.Path.{◌≡◌, refl}
use mathlib.Core.Bool.{true}
use mathlib.Core.List.{List, [], ◌++◌, append-nil}
use Prim.Native.Nat.{ℕ, ◌+◌, ◌≤◌, ◌<◌}
use native.Mathlib.Omega.{arith}
use borrow.Author.Tests.{leb-true, eq-eqb, ne_eqb}
use lib.IntN.{ℤ}
use lib.ListN.{get_or}
use lib.Dec.{leb}
use Rattle.lists.specs.Lists.{gather_from, gather, tabulate}
use Rattle.lists.proofs.TestLaws.{and_left}
use Rattle.lists.proofs.GatherLaws.{gather-tabulate}
use Rattle.records.specs.Encoding.{row_at, rows_of, accounts_of}
use Rattle.decimal.specs.Decimal.{text_of, digits_of}
use Rattle.records.specs.Limits.{final_day}
use Rattle.rules.specs.Rows.{Row, blank}
use Rattle.rules.specs.Book.{Account, state_unused, Book, sources, debits, minus, balance}
use Rattle.rules.specs.Soundness.{row_day_fits}
use Rattle.rules.specs.Tables.{Tables, accounts_in, rows_used, book_of, sound_tables}
use Rattle.rules.specs.SoundFacts.{Near}
use Rattle.rules.proofs.StorableLaws.{between_le, day-le}
use Rattle.rules.proofs.TableLaws.{sound-book, sound-rows, length-sound-rows}
use Rattle.posting.proofs.BookLaws.{used-room, book-row}
use Rattle.listing_rules.specs.Texts.{bytes_of, field, line, row_text, account_text, book_text}
use Rattle.decimal.proofs.WritingLaws.{appended}
use Rattle.listing_book.specs.Listed.{Dated}

-- ---- lines one after the other

module _ {A : Type 0} (f : ℕ → A → List ℕ) (g : ℕ → A) where
  -- of none
  pub listed-none : (b : List ℕ) → b ≡ b ++ gather f (tabulate g 0)
  unfolding gather_from tabulate
  listed-none b = rw (append-nil b) refl

  -- one more
  pub listed_more : (b c d : List ℕ) (i : ℕ) (x : A) → x ≡ g i → c ≡ b ++ gather f (tabulate g i) → d ≡ c ++ f (i + 1) x
      → d ≡ b ++ gather f (tabulate g (i + 1))
  listed_more b c d i x e p q = rw (gather-tabulate f g i) (appended b c d _ _ p (rw e at q))

-- ---- dates

-- a row that was read has a date
pub row-dated : (t : List ℤ) (used i : ℕ) (r : Row) → Dated t used → i < used → r ≡ row_at t i → (1 ≤ r.day) × (r.day ≤ final_day)
row-dated t used i r d h e = rw e (d.from i h, d.to i h)

-- the used rows of sound tables have dates
pub sound-dated : (t : Tables) → sound_tables t ≡ true → Dated t.journal (rows_used t)
unfolding row_day_fits
sound-dated t s = record {
  room = used-room t s;
  from = λ k h. rw (book-row t s k h) at (first k h);
  to = λ k h. rw (book-row t s k h) at (last k h);
}
  where
    near : Near (book_of t).day (book_of t)
    near = (sound-book t s).near

    shape : (k : ℕ) → k < rows_used t → row_day_fits (book_of t).day (get_or (book_of t).rows k blank) ≡ true
    shape k h = (near.shape k (rw (length-sound-rows t s) h)).day

    first : (k : ℕ) → k < rows_used t → 1 ≤ (get_or (book_of t).rows k blank).day
    first k h = leb-true 1 _ (and_left (leb 1 (get_or (book_of t).rows k blank).day) (leb (get_or (book_of t).rows k blank).day (book_of t).day) (shape k h))

    last : (k : ℕ) → k < rows_used t → (get_or (book_of t).rows k blank).day ≤ final_day
    last k h = omega (arith, between_le 1 (book_of t).day (get_or (book_of t).rows k blank).day (shape k h), day-le (book_of t).day (book_of t) near)

-- ---- accounts

module _ (b : Book) (n : ℕ) (x : Account) where
  -- an unused account has no line
  pub account-unused : x.state ≡ state_unused → [] ≡ account_text b n x
  unfolding account_text
  account-unused e = rw (eq-eqb x.state state_unused e)

  -- a used one has a line with its balance
  pub account-used : (rows : List Row) → b.rows ≡ rows → (x.state ≡ state_unused → ⊥)
      → field (digits_of n) ++ field (digits_of x.state) ++ line (text_of (minus (sources rows n) (debits rows n))) ≡ account_text b n x
  unfolding account_text balance
  account-used rows e h = rw (ne_eqb x.state state_unused h, e)

-- ---- the book

-- the book's accounts are those of the table
accounts-read : (t : Tables) → (book_of t).accounts ≡ accounts_of t.accounts (accounts_in t)
unfolding book_of
accounts-read t = refl

module _ (t : Tables) (s : sound_tables t ≡ true) (used : ℕ) (u : used ≡ rows_used t) where
  -- names, rows, names, accounts
  pub book-listed : (b c d e f : List ℕ) → c ≡ b ++ line (bytes_of "row,account,kind,date,amount,settled")
      → d ≡ c ++ gather row_text (rows_of t.journal used) → e ≡ d ++ line (bytes_of "account,state,balance")
      → ((x : Book) → x.rows ≡ rows_of t.journal used → f ≡ e ++ gather (account_text x) (accounts_of t.accounts (accounts_in t)))
      → f ≡ b ++ book_text (book_of t)
  unfolding book_text
  book-listed b c d e f names rows names2 accounts =
      let same : (book_of t).rows ≡ rows_of t.journal used = rw u (sound-rows t s) in
      let two = appended _ _ _ _ _ names (rw (← same) at rows) in
      let three = appended _ _ _ _ _ two names2 in
      appended _ _ _ _ _ three (rw (← accounts-read t) at (accounts (book_of t) same))
