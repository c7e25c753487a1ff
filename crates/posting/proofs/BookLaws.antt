-- What a reader of sound tables knows: each count, word and record that it reads is the book's, and small.
use mathlib.Core.Path.{◌≡◌, refl, sym, ◌∙◌}
use mathlib.Core.Bool.{Bool, true, false, not}
use Prim.Native.Nat.{ℕ, zero, suc, ◌+◌, ◌*◌, ◌^◌, ◌≤◌, ◌<◌}
use native.Mathlib.Omega.{arith}
use native.Mathlib.Decide.{dec_lt}
use mathlib.Core.List.{List, ◌∷◌}
use lib.ListN.{length, get_or, get_or-eq_default}
use lib.IntN.{ℤ}
use lib.Dec.{leb, ltb}
use borrow.Author.Tests.{leb-true, leb-false, lt-ltb, le-ltb}
use Rattle.records.specs.Layout.{day_place, used_place, header_schedule, stage_place, row_width, account_width}
use Rattle.records.specs.Encoding.{word, row_at, rows_of, accounts_of, StorableRow, StorableAccount}
use Rattle.records.proofs.FieldLaws.{storable-zeros}
use Rattle.lists.proofs.ListLaws.{tabulate-at}
use Rattle.records.specs.Limits.{final_day, most_accounts, most_rows, longest_stage, highest_refund}
use Rattle.rules.specs.Rows.{Row, blank, row_no}
use Rattle.rules.specs.Book.{unused, account, account_no, row}
use Rattle.rules.specs.Tables.{Tables, accounts_in, room_in, rows_used, schedule_from, book_of, sound_tables}
use Rattle.rules.specs.SoundFacts.{Near}
use Rattle.rules.proofs.StorableLaws.{day-le, stage-le, accounts-le, room-le, row-storable, account-storable, amount-le}
use Rattle.rules.proofs.TableLaws.{sound-book, sound-rows, length-sound-rows, length-sound-accounts, header-length, journal-length, used_le}
use Rattle.settlement.specs.Settling.{Journal}
use Rattle.posting.specs.Posts.{Amounts}

-- ---- a record of a list by its number: one of the list's, or the one that stands for none

numbered : {A : Type 0} (P : A → Type 0) (d : A) (xs : List A) → P d → ((k : ℕ) → k < length xs → P (get_or xs k d)) → (n : ℕ) → P (get_or (d ∷ xs) n d)
numbered P d xs p f zero = p
numbered P d xs p f (suc k) =
    elim (dec_lt k (length xs)) [
      | yes h ↦ f k h
      | no h ↦ rw (get_or-eq_default xs d {n = k} (omega arith)) p
    ]

blank-storable : StorableRow blank
blank-storable = record {
  kind = omega arith;
  account = omega arith;
  day = omega arith;
  amount = omega arith;
  settled = omega arith;
  mark = omega arith;
  due = omega arith;
  dispute = omega arith;
  hold = omega arith;
  reference = omega arith;
}

unused-storable : StorableAccount unused
unused-storable = storable-zeros account_width

module _ (t : Tables) (s : sound_tables t ≡ true) where
  near : Near (book_of t).day (book_of t)
  near = (sound-book t s).near

  -- ---- what is read is the book's

  pub account-read : (n : ℕ) → account_no (accounts_of t.accounts (accounts_in t)) n ≡ account (book_of t) n
  unfolding book_of
  account-read n = refl

  pub row_read : (n : ℕ) → row_no (rows_of t.journal (rows_used t)) n ≡ row (book_of t) n
  row_read n = rw (sound-rows t s)

  -- the same of the used rows as they are lent: of the journal j
  pub row-read-in : (j : List ℤ) (used : ℕ) → j ≡ t.journal → used ≡ rows_used t → (n : ℕ) (r : Row) → r ≡ row_no (rows_of j used) n → r ≡ row (book_of t) n
  row-read-in j used f u n r e = (rw (f, u) at e) ∙ row_read n

  pub day-read : word t.header day_place ≡ (book_of t).day
  unfolding book_of
  day-read = refl

  pub used-read : rows_used t ≡ length (book_of t).rows
  used-read = sym (length-sound-rows t s)

  pub room-read : room_in t ≡ (book_of t).room
  unfolding book_of
  room-read = refl

  pub count-read : accounts_in t ≡ length (book_of t).accounts
  count-read = sym (length-sound-accounts t s)

  pub schedule-read : schedule_from t.header header_schedule ≡ (book_of t).schedule
  unfolding book_of
  schedule-read = refl

  pub stage-read : word t.header (header_schedule + stage_place) ≡ (book_of t).schedule.stage
  unfolding book_of schedule_from
  stage-read = refl

  -- ---- what is read is small

  pub day-small : word t.header day_place ≤ final_day
  day-small = rw day-read (day-le (book_of t).day (book_of t) near)

  pub stage-small : word t.header (header_schedule + stage_place) ≤ longest_stage
  stage-small = rw stage-read (stage-le (book_of t).day (book_of t) near)

  pub count_small : accounts_in t ≤ most_accounts
  count_small = rw count-read (accounts-le (book_of t).day (book_of t) near)

  pub room_small : room_in t ≤ most_rows
  room_small = rw room-read (room-le (book_of t).day (book_of t) near)

  pub used-small : rows_used t ≤ most_rows
  used-small = omega (arith, used_le t s, room_small)

  pub used-room : rows_used t * row_width ≤ length t.journal
  used-room = omega (arith, used_le t s, journal-length t s)

  -- ---- what is asked of sound tables to be told the used rows, and whether n rows more have room

  pub rows-lie : (used_place < length t.header) × (rows_used t * row_width ≤ length t.journal)
  rows-lie = (omega (arith, header-length t s), used-room)

  pub room-asked : (n : ℕ) → n ≤ most_rows → (used_place < length t.header) × (rows_used t + n < 2 ^ 64)
  room-asked n h = (omega (arith, header-length t s), omega (arith, used-small))

  -- b says whether they have it; the rules ask whether they lack it
  pub room-told : (n : ℕ) (b : Bool) → b ≡ leb (rows_used t + n) (room_in t) → ltb (book_of t).room (length (book_of t).rows + n) ≡ not b
  room-told n b e = rw (← room-read, ← used-read) (go b (sym e))
    where
      go : (x : Bool) → leb (rows_used t + n) (room_in t) ≡ x → ltb (room_in t) (rows_used t + n) ≡ not x
      go true q = le-ltb (room_in t) (rows_used t + n) (leb-true (rows_used t + n) (room_in t) q)
      go false q = lt-ltb (room_in t) (rows_used t + n) (leb-false (rows_used t + n) (room_in t) q)

  pub row-holds : (n : ℕ) → StorableRow (row (book_of t) n)
  row-holds = numbered StorableRow blank (book_of t).rows blank-storable (row-storable (book_of t).day (book_of t) near)

  pub account-holds : (n : ℕ) → StorableAccount (account (book_of t) n)
  account-holds = numbered StorableAccount unused (book_of t).accounts unused-storable (account-storable (book_of t).day (book_of t) near)

  -- ---- the journal can be summed and settled

  pub book-row : (k : ℕ) → k < rows_used t → get_or (book_of t).rows k blank ≡ row_at t.journal k
  book-row k h = rw (sound-rows t s) (tabulate-at (row_at t.journal) (rows_used t) k blank h)

  amount-small : (k : ℕ) → k < rows_used t → (row_at t.journal k).amount ≤ highest_refund
  amount-small k h = rw (book-row k h) at (amount-le (get_or (book_of t).rows k blank) (near.shape k (rw (length-sound-rows t s) h)).amount)

  pub journal-summable : Amounts t.journal (rows_used t)
  journal-summable = record { room = used-room; few = used-small; small = amount-small }

  pub journal-settles : Journal t.journal (rows_used t)
  journal-settles = record { room = used-room; amounts = λ k h. omega (arith, amount-small k h) }
