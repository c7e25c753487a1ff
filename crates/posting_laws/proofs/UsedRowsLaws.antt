-- The header and the journal on the way through an event that changes and adds several rows: which rows are used after each store,
-- and that the tables at the end hold the book with these rows.
use mathlib.Core.Path.{◌≡◌, refl, sym, ap, ◌∙◌}
use mathlib.Core.Logic.{◌≢◌}
use mathlib.Core.Bool.{true}
use Prim.Native.Nat.{ℕ, zero, suc, ◌+◌, ◌^◌, ◌≤◌, ◌<◌}
use native.Mathlib.Omega.{arith}
use native.Mathlib.Decide.{ℕ_discrete}
use mathlib.Core.List.{List, [], ◌∷◌, ◌++◌, map}
use lib.ListN.{length, get_or, set, length-set, length-append, length-map}
use lib.Seq.{get_or-set_same, get_or-set_other}
use lib.IntN.{ℤ}
use Rattle.records.specs.Layout.{header_width, day_place, used_place, header_schedule}
use Rattle.records.specs.Encoding.{word, row_at, rows_of, accounts_of}
use Rattle.lists.proofs.ListLaws.{tabulate-at, length-tabulate}
use Rattle.rules.specs.Rows.{Row, blank}
use Rattle.rules.specs.Settlement.{settle}
use Rattle.rules.specs.Book.{Account, with_rows, with_accounts}
use Rattle.rules.specs.Tables.{Tables, accounts_in, room_in, rows_used, schedule_from, book_of, sound_tables}
use Rattle.rules.proofs.SettlementLaws.{length-settle}
use Rattle.rules.proofs.TableLaws.{sound-rows, header-length, journal-length}
use Rattle.tables.specs.Changes.{RowChanged, RowsMapped}
use Rattle.tables.proofs.ChangeLaws.{changed-rows, changed-append, mapped-all, word_same, word-other}
use Rattle.settlement.specs.Settling.{Journal, Settled}
use Rattle.posting.specs.Posts.{tables_over, RowRoom, RowAdded}
use Rattle.posting.proofs.BookLaws.{row-holds}
use Rattle.posting_laws.proofs.HeaderLaws.{schedule-same}
use Rattle.posting.specs.Written.{Fixed, Written, UsedRows}

-- each amount is one that a word holds
abbrev pub SmallAmounts : List Row → Type 0
SmallAmounts rows = (k : ℕ) → (get_or rows k blank).amount < 2 ^ 63

-- ---- any tables: after a store

module _ (t : Tables) (h j j' : List ℤ) (rows : List Row) (u : UsedRows t h j rows) where
  -- row i is written
  pub rows-put : (i : ℕ) (r : Row) → i < length rows → RowChanged j j' i r → UsedRows t h j' (set rows i r)
  rows-put i r l c =
      let n : length (set rows i r) ≡ length rows = length-set rows i r in
      record {
        header-size = u.header-size;
        used = u.used ∙ sym n;
        words = u.words;
        journal-size = c.size ∙ u.journal-size;
        rows = rw n (changed-rows j j' i r c (length rows) l ∙ rw u.rows);
        longer = rw n u.longer;
        rest = λ k q. c.others k (λ z. omega arith) ∙ u.rest k (rw n at q);
      }

  -- each row is changed by f
  pub rows-map : (f : Row → Row) → RowsMapped f j j' (length rows) → UsedRows t h j' (map f rows)
  rows-map f m =
      let n : length (map f rows) ≡ length rows = length-map rows f in
      record {
        header-size = u.header-size;
        used = u.used ∙ sym n;
        words = u.words;
        journal-size = m.size ∙ u.journal-size;
        rows = rw n (mapped-all row_at f j j' (length rows) m ∙ rw u.rows);
        longer = rw n u.longer;
        rest = λ k q. m.left k (rw n at q) ∙ u.rest k (rw n at q);
      }

  -- account a is settled
  pub rows-settle : (a : ℕ) → Settled j j' (length rows) a → UsedRows t h j' (settle a rows)
  rows-settle a d =
      let n : length (settle a rows) ≡ length rows = length-settle a rows in
      record {
        header-size = u.header-size;
        used = u.used ∙ sym n;
        words = u.words;
        journal-size = d.size ∙ u.journal-size;
        rows = rw n (d.rows ∙ rw u.rows);
        longer = rw n u.longer;
        rest = λ k q. d.rest k (rw n at q) ∙ u.rest k (rw n at q);
      }

  -- the row r is added
  pub rows-add : length t.header ≡ header_width → (h' : List ℤ) (r : Row) → RowAdded h h' j j' r → UsedRows t h' j' (rows ++ (r ∷ []))
  rows-add wide h' r w =
      record {
        header-size = rw w.header (length-set h used_place _ ∙ u.header-size);
        used = there ∙ sym n;
        words = λ k q. other k q ∙ u.words k q;
        journal-size = w.row.size ∙ u.journal-size;
        rows = rw n (changed-append row_at j j' (length rows) r c ∙ rw u.rows);
        longer = omega (arith, n, u.longer);
        rest = λ k q. c.others k (λ z. omega (arith, n)) ∙ u.rest k (omega (arith, n));
      }
    where
      n : length (rows ++ (r ∷ [])) ≡ length rows + 1
      n = length-append rows (r ∷ [])

      c : RowChanged j j' (length rows) r
      c = rw u.used at w.row

      there : word h' used_place ≡ length rows + 1
      there = rw w.header (word_same h used_place _ (omega (arith, u.header-size)) ∙ rw u.used)

      other : (k : ℕ) → k ≢ used_place → word h' k ≡ word h k
      other k q = rw w.header (word-other h used_place _ k q)

  -- rows used one after the other
  pub rows_then : (acc h' : List ℤ) (rows' : List Row) → UsedRows (tables_over t h acc j) h' j' rows' → UsedRows t h' j' rows'
  rows_then acc h' rows' v = record {
    header-size = v.header-size ∙ u.header-size;
    used = v.used;
    words = λ k q. v.words k q ∙ u.words k q;
    journal-size = v.journal-size ∙ u.journal-size;
    rows = v.rows;
    longer = omega (arith, u.longer, u.used, v.longer);
    rest = λ k q. v.rest k q ∙ u.rest k (omega (arith, u.used, v.longer));
  }

-- ---- any tables: at the start and at the end

pub rows_before : (t : Tables) → UsedRows t t.header t.journal (rows_of t.journal (rows_used t))
rows_before t =
    let n = length-tabulate (row_at t.journal) (rows_used t) in
    record {
      header-size = refl;
      used = sym n;
      words = λ k q. refl;
      journal-size = refl;
      rows = rw n;
      longer = rw n (omega arith);
      rest = λ k q. refl;
    }

module _ (t : Tables) (h j : List ℤ) (rows : List Row) (u : UsedRows t h j rows) where
  pub rows_row : (k : ℕ) → k < length rows → row_at j k ≡ get_or rows k blank
  rows_row k q = sym (tabulate-at (row_at j) (length rows) k blank q) ∙ ap (λ (xs : List Row). get_or xs k blank) u.rows

  rows-fixed : Fixed t.header h
  rows-fixed k l = u.words k (λ z. omega arith)

  pub rows-schedule : schedule_from h header_schedule ≡ (book_of t).schedule
  unfolding book_of
  rows-schedule = schedule-same t.header h rows-fixed

  -- there is a row for one more, and its day is the book's
  pub rows-room : length t.header ≡ header_width → length rows < room_in t → RowRoom h j
  rows-room wide l = record { header = u.header-size ∙ wide; room = rw (u.used, u.journal-size) (omega arith) }

  pub rows-day : word h day_place ≡ (book_of t).day
  unfolding book_of
  rows-day = u.words day_place (λ z. omega arith)

  pub rows_written : (acc : List ℤ) (xs : List Account) → length acc ≡ length t.accounts → accounts_of acc (accounts_in t) ≡ xs
      → Written t (tables_over t h acc j) (with_rows rows (with_accounts xs (book_of t)))
  unfolding book_of
  rows_written acc xs size held = record {
    header-size = u.header-size;
    accounts-size = size;
    journal-size = u.journal-size;
    day = rows-day;
    used = u.used;
    fixed = rows-fixed;
    schedule = refl;
    lists = refl;
    holidays = refl;
    same-holidays = refl;
    accounts = held;
    rows = u.rows;
    room = refl;
    longer = u.longer;
    rest = u.rest;
  }

-- ---- sound tables

module _ (t : Tables) (s : sound_tables t ≡ true) where
  pub used-rows-before : UsedRows t t.header t.journal (book_of t).rows
  used-rows-before = rw (sound-rows t s) (rows_before t)

  module _ (h j j' : List ℤ) (rows : List Row) (u : UsedRows t h j rows) where
    pub used-rows-add : (h' : List ℤ) (r : Row) → RowAdded h h' j j' r → UsedRows t h' j' (rows ++ (r ∷ []))
    used-rows-add = rows-add t h j j' rows u (header-length t s)

  module _ (h j : List ℤ) (rows : List Row) (u : UsedRows t h j rows) where
    pub used-rows-room : length rows < room_in t → RowRoom h j
    used-rows-room = rows-room t h j rows u (header-length t s)

    -- these rows can be settled
    pub used-rows-settles : length rows ≤ room_in t → SmallAmounts rows → Journal j (length rows)
    used-rows-settles l small = record {
      room = rw u.journal-size (omega (arith, journal-length t s));
      amounts = λ k q. rw (rows_row t h j rows u k q) (small k);
    }

-- ---- amounts on the way

pub small-before : (t : Tables) → sound_tables t ≡ true → SmallAmounts (book_of t).rows
small-before t s k = (row-holds t s (suc k)).amount

pub small_put : (rows : List Row) (i : ℕ) (r : Row) → i < length rows → r.amount < 2 ^ 63 → SmallAmounts rows → SmallAmounts (set rows i r)
small_put rows i r l a f k =
    elim (ℕ_discrete k i) [
      | yes e ↦ rw (e, get_or-set_same rows i r blank l) a
      | no n ↦ rw (get_or-set_other rows i k r blank n) (f k)
    ]

pub small-add : (rows : List Row) (r : Row) → r.amount < 2 ^ 63 → SmallAmounts rows → SmallAmounts (rows ++ (r ∷ []))
small-add [] r a f zero = a
small-add [] r a f (suc k) = omega arith
small-add (x ∷ rows) r a f zero = f 0
small-add (x ∷ rows) r a f (suc k) = small-add rows r a (λ i. f (suc i)) k

pub small-map : (f : Row → Row) (rows : List Row) → ((r : Row) → (f r).amount ≡ r.amount) → SmallAmounts rows → SmallAmounts (map f rows)
small-map f [] e a k = a k
small-map f (x ∷ rows) e a zero = rw (e x) (a 0)
small-map f (x ∷ rows) e a (suc k) = small-map f rows e (λ i. a (suc i)) k
