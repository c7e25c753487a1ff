-- Laws of the tables: the tables of a book read back as that book, and in sound tables the book that is read is written as them.
use mathlib.Core.Path.{◌≡◌, refl, sym, ap₂, ◌∙◌}
use mathlib.Core.Bool.{Bool, true, ◌&&◌, false≢true}
use Prim.Native.Nat.{ℕ, suc, ◌+◌, ◌*◌, ◌-◌, ◌%◌, ◌≤◌, ◌<◌, min}
use native.Mathlib.Omega.{arith}
use mathlib.Core.List.{List, [], ◌∷◌, ◌++◌, append_assoc}
use lib.ListN.{length, get_or, take, drop, replicate, length-append, length-drop, length-replicate, take-append-drop}
use lib.Seq.{take_all, drop_at, get_or-drop, drop-append-add, sets}
use lib.IntN.{ℤ, pos, negsuc}
use borrow.Author.Tests.{leb-true, eqb-true, le-leb, eq-eqb}
use Rattle.records.specs.Layout.{header_width, day_place, header_schedule, header_lists, later_lists, list_width, account_width, row_width}
use Rattle.records.specs.Encoding.{nat_of, word, account_from, row_from, rows_of, account_words, row_words, write_all, StorableAccount, StorableRow}
use Rattle.records.proofs.EncodingLaws.{length-write_all, read-write_all, read-write_all-whole, write_all-read, row-codec, account-codec, plain}
use Rattle.lists.specs.Tests.{◌is◌, all_of}
use Rattle.records.specs.Limits.{most_lists}
use Rattle.lists.specs.Lists.{every_from, tabulate}
use Rattle.lists.proofs.TestLaws.{and_left, and_right, all_of-at}
use Rattle.lists.proofs.ListLaws.{length-tabulate, tabulate-at, tabulate-get_d, every-replicate}
use Rattle.rules.specs.Rows.{blank}
use Rattle.rules.specs.Book.{unused, Book, with_lists}
use Rattle.rules.specs.Opening.{sizes_fit}
use Rattle.rules.specs.Soundness.{sound}
use Rattle.rules.specs.RateLists.{RateList, no_list, list_no, list_in_range}
use Rattle.rules.specs.BusinessDays.{holidays_fit}
use Rattle.rules.specs.Tables.{Tables, accounts_in, room_in, rows_used, holidays_in, schedule_from, rates_from, first_list_in, list_from, later_list_at, lists_used, lists_in, book_of, schedule_words, rates_words, list_words, later_lists_words, header_words, tables_of, whole_records, lengths_fit, used_fits, zero_word, later_rows_zero, unused_lists_zero, sound_tables}
use Rattle.rules.specs.SoundFacts.{Near, Sound}
use Rattle.rules.proofs.SoundnessLaws.{sound-facts}
use Rattle.rules.proofs.RateListLaws.{some-list, few-lists, list-in-range}
use Rattle.rules.proofs.StorableLaws.{StorableList, day-le, room-le, rows-le, row-storable, account-storable, schedule-storable, list-at-storable}
use Rattle.rules.proofs.HolidayLaws.{days-again, holidays-again}
use Rattle.rules.proofs.HeaderLaws.{list-codec, used-written, lists-written, length-later_lists_words, list_put, lists-again}

-- ---- a book's tables, read back

module _ {past : ℕ} (b : Book) (n : Near past b) where
  fits : length b.rows ≤ b.room
  fits = rows-le past b n

  length-journal : length (tables_of b).journal ≡ b.room * row_width
  unfolding tables_of
  length-journal =
      length-append (write_all row_words b.rows) (replicate ((b.room - length b.rows) * row_width) (pos 0))
      ∙ omega (arith, fits, length-write_all row_width row_from row_words StorableRow row-codec b.rows, length-replicate ((b.room - length b.rows) * row_width) (pos 0))

  length-accounts : length (tables_of b).accounts ≡ length b.accounts * account_width
  unfolding tables_of
  length-accounts = length-write_all account_width account_from account_words StorableAccount account-codec b.accounts

  pub room-tables_of : room_in (tables_of b) ≡ b.room
  room-tables_of = omega (arith, length-journal)

  pub accounts-tables_of : accounts_in (tables_of b) ≡ length b.accounts
  accounts-tables_of = omega (arith, length-accounts)

  pub used-tables_of : rows_used (tables_of b) ≡ length b.rows
  unfolding tables_of header_words word nat_of
  used-tables_of = refl

  -- ---- its rate lists

  later : List RateList
  later = drop 1 b.lists

  length-later : suc (length later) ≡ length b.lists
  unfolding later
  length-later = omega (arith, length-drop 1 b.lists, some-list b.lists n.lists)

  few-later : length later ≤ later_lists
  few-later = omega (arith, length-later, few-lists b.lists n.lists)

  later-days : (k : ℕ) → k < length later → 0 < (get_or later k no_list).first_day
  unfolding later list_in_range
  later-days k h =
      rw (get_or-drop 1 b.lists k no_list)
      (leb-true 1 _ (and_left _ _ (and_left _ _ (list-in-range b.lists n.lists (1 + k) (omega (arith, length-later))))))

  -- the words before them
  begin : List ℤ
  begin = (pos b.day ∷ pos (length b.rows) ∷ schedule_words b.schedule) ++ (rates_words (list_no b.lists 1).rates ++ (pos (list_no b.lists 1).first_day ∷ []))

  header-parts : header_words b ≡ begin ++ later_lists_words later
  unfolding header_words begin schedule_words rates_words later
  header-parts = refl

  length-begin : length begin ≡ header_lists
  unfolding begin schedule_words rates_words
  length-begin = refl

  lists-used : lists_used (header_words b) ≡ length later
  lists-used = rw header-parts (used-written begin length-begin later few-later later-days)

  lists-tables_of : lists_in (header_words b) ≡ b.lists
  unfolding lists_in later
  lists-tables_of = ap₂ {C = List RateList} ◌∷◌ first-again (rw header-parts (lists-written begin length-begin later few-later later-days)) ∙ whole b.lists (some-list b.lists n.lists)
    where
      first-again : first_list_in (header_words b) ≡ list_no b.lists 1
      first-again = unfold first_list_in rates_from header_words schedule_words rates_words word nat_of in refl

      whole : (ls : List RateList) → 1 ≤ length ls → list_no ls 1 ∷ drop 1 ls ≡ ls
      whole [] h = absurd (omega arith)
      whole (l ∷ ls) h = refl

  -- with one list more, seven words of the header are others: those after the used lists
  pub header-more : (l : RateList) → length b.lists < most_lists
      → sets (header_words b) (header_lists + (length b.lists - 1) * list_width) (list_words l) ≡ header_words (with_lists (b.lists ++ (l ∷ [])) b)
  unfolding later begin
  header-more l few =
      let z : length b.lists - 1 ≡ length later = omega (arith, length-later) in
      rw (z, header-parts) (list_put begin later l length-begin (omega (arith, length-later)))
      ∙ sym (parts (b.lists ++ (l ∷ [])) ∙ more b.lists (some-list b.lists n.lists))
    where
      words : List RateList → List ℤ
      words ls = (pos b.day ∷ pos (length b.rows) ∷ schedule_words b.schedule) ++ (rates_words (list_no ls 1).rates ++ (pos (list_no ls 1).first_day ∷ []))

      parts : (ls : List RateList) → header_words (with_lists ls b) ≡ words ls ++ later_lists_words (drop 1 ls)
      parts ls = unfold header_words schedule_words rates_words in refl

      more : (ls : List RateList) → 1 ≤ length ls → words (ls ++ (l ∷ [])) ++ later_lists_words (drop 1 (ls ++ (l ∷ []))) ≡ words ls ++ later_lists_words (drop 1 ls ++ (l ∷ []))
      more [] h = absurd (omega arith)
      more (x ∷ ls) h = refl

  pub length-header : length (header_words b) ≡ header_width
  length-header = rw header-parts (length-append begin (later_lists_words later) ∙ omega (arith, length-begin, length-later_lists_words later few-later))

  pub book_of-tables_of : book_of (tables_of b) ≡ b
  unfolding book_of tables_of
  book_of-tables_of =
      let m : min (length b.rows) b.room ≡ length b.rows = omega (arith, fits) in
      let e = room-tables_of in
      let f = accounts-tables_of in
      let u = used-tables_of in
      let z : List ℤ = replicate ((b.room - length b.rows) * row_width) (pos 0) in
      rw (
        e,
        f,
        u,
        m,
        day-again,
        schedule-again,
        lists-tables_of,
        days-again b.holidays,
        read-write_all row_width row_from row_words StorableRow row-codec b.rows z blank,
        read-write_all-whole account_width account_from account_words StorableAccount account-codec b.accounts unused,
      )
    where
      day-again : word (header_words b) day_place ≡ b.day
      day-again = unfold header_words word nat_of in refl

      schedule-again : schedule_from (header_words b) header_schedule ≡ b.schedule
      schedule-again = unfold schedule_from header_words schedule_words word nat_of in refl

-- ---- sound tables, written again

zero_word_lem : (i : ℕ) (w : ℤ) → zero_word i w ≡ true → w ≡ pos 0
unfolding zero_word nat_of
zero_word_lem i (pos n) e = rw (eqb-true n 0 e)
zero_word_lem i (negsuc n) e = absurd (false≢true e)

zeros : (i : ℕ) (xs : List ℤ) → every_from zero_word i xs ≡ true → xs ≡ replicate (length xs) (pos 0)
unfolding every_from
zeros i [] e = refl
zeros i (x ∷ xs) e =
    ap₂ {C = List ℤ} ◌∷◌ (zero_word_lem i x (and_left (zero_word i x) (every_from zero_word (i + 1) xs) e))
    (zeros (i + 1) xs (and_right (zero_word i x) (every_from zero_word (i + 1) xs) e))

module _ (t : Tables) (h : sound_tables t ≡ true) where
  pub sound-part : (k : ℕ) → get_or (lengths_fit t ∷ used_fits t ∷ later_rows_zero t ∷ unused_lists_zero t ∷ sound (book_of t) ∷ []) k true ≡ true
  unfolding sound_tables
  sound-part = all_of-at _ h

  pub sound-book : Sound (book_of t)
  sound-book = sound-facts (book_of t) (sound-part 4)

  near : Near (book_of t).day (book_of t)
  near = sound-book.near

  abbrev header-part : Bool
  header-part = length t.header is header_width

  abbrev accounts-part : Bool
  accounts-part = length t.accounts % account_width is 0

  abbrev journal-part : Bool
  journal-part = length t.journal % row_width is 0

  lengths : header-part && accounts-part && journal-part ≡ true
  unfolding lengths_fit whole_records
  lengths = and_left (whole_records t) (sizes_fit (accounts_in t) (room_in t)) (sound-part 0)

  pub header-length : length t.header ≡ header_width
  header-length = eqb-true _ _ (and_left header-part accounts-part (and_left (header-part && accounts-part) journal-part lengths))

  pub accounts-length : accounts_in t * account_width ≡ length t.accounts
  accounts-length =
      let e : length t.accounts % account_width ≡ 0 = eqb-true _ _ (and_right header-part accounts-part (and_left (header-part && accounts-part) journal-part lengths)) in
      omega arith

  pub journal-length : room_in t * row_width ≡ length t.journal
  journal-length =
      let e : length t.journal % row_width ≡ 0 = eqb-true _ _ (and_right (header-part && accounts-part) journal-part lengths) in
      omega arith

  pub used_le : rows_used t ≤ room_in t
  unfolding used_fits
  used_le = leb-true (rows_used t) (room_in t) (sound-part 1)

  used-min : min (rows_used t) (room_in t) ≡ rows_used t
  used-min = omega (arith, used_le)

  pub sound-rows : (book_of t).rows ≡ rows_of t.journal (rows_used t)
  unfolding book_of
  sound-rows = rw used-min

  pub length-sound-rows : length (book_of t).rows ≡ rows_used t
  length-sound-rows = rw (sound-rows, length-tabulate)

  pub length-sound-accounts : length (book_of t).accounts ≡ accounts_in t
  unfolding book_of
  length-sound-accounts = length-tabulate _ (accounts_in t)

  -- ---- the header's lists

  few-used : lists_used t.header ≤ later_lists
  unfolding book_of lists_in
  few-used = omega (arith, few-lists (book_of t).lists near.lists, length-tabulate (later_list_at t.header) (lists_used t.header))

  list-small : (k : ℕ) → k < lists_used t.header → StorableList (later_list_at t.header k)
  unfolding book_of lists_in
  list-small k h =
      let n = length-tabulate (later_list_at t.header) (lists_used t.header) in
      rw (tabulate-at (later_list_at t.header) (lists_used t.header) k no_list h) at (list-at-storable (book_of t).day (book_of t) near (suc k) (omega arith))

  first_small : StorableList (first_list_in t.header)
  unfolding book_of lists_in
  first_small = list-at-storable (book_of t).day (book_of t) near 0 (omega arith)

  pub unused-zero : drop (header_lists + lists_used t.header * list_width) t.header ≡ replicate ((later_lists - lists_used t.header) * list_width) (pos 0)
  unfolding unused_lists_zero
  unused-zero =
      let p : ℕ = header_lists + lists_used t.header * list_width in
      let n : length (drop p t.header) ≡ (later_lists - lists_used t.header) * list_width = length-drop p t.header ∙ omega (arith, header-length, few-used) in
      zeros 1 (drop p t.header) (sound-part 3) ∙ rw n

  -- the words before the later lists
  begin-again : (pos (word t.header day_place) ∷ pos (rows_used t) ∷ schedule_words (schedule_from t.header header_schedule)) ++ (rates_words (first_list_in t.header).rates ++ (pos (first_list_in t.header).first_day ∷ []))
      ≡ take header_lists t.header
  unfolding book_of schedule_from schedule_words first_list_in rates_from rates_words tabulate
  begin-again =
      let w : List ℤ = t.header in
      let l = header-length in
      let u = room-le (book_of t).day (book_of t) near in
      let d = day-le (book_of t).day (book_of t) near in
      let s = schedule-storable (book_of t).schedule near.schedule in
      let r = first_small.rates in
      rw (
        plain w 0 (omega arith),
        plain w 1 (omega (arith, used_le)),
        plain w 2 (omega (arith, s.stage)),
        plain w 3 (omega (arith, s.fee2)),
        plain w 4 (omega (arith, s.fee3)),
        plain w 5 (omega (arith, s.fee4)),
        plain w 6 (omega (arith, r.tag1)),
        plain w 7 (omega (arith, r.plate1)),
        plain w 8 (omega (arith, r.tag2)),
        plain w 9 (omega (arith, r.plate2)),
        plain w 10 (omega (arith, r.tag3)),
        plain w 11 (omega (arith, r.plate3)),
        plain w 12 (omega (arith, first_small.day)),
      )
      (tabulate-get_d w 0 header_lists (pos 0) (omega arith))

  header-again : header_words (book_of t) ≡ t.header
  unfolding header_words
  header-again = rw length-sound-rows words-again
    where
      words-again : (pos (book_of t).day ∷ pos (rows_used t) ∷ schedule_words (book_of t).schedule)
          ++ ((rates_words (list_no (book_of t).lists 1).rates ++ (pos (list_no (book_of t).lists 1).first_day ∷ [])) ++ later_lists_words (drop 1 (book_of t).lists))
          ≡ t.header
      words-again = unfold book_of lists_in in
          (sym
          (append_assoc (pos (word t.header day_place) ∷ pos (rows_used t) ∷ schedule_words (schedule_from t.header header_schedule))
          (rates_words (first_list_in t.header).rates ++ (pos (first_list_in t.header).first_day ∷ [])) (later_lists_words (tabulate (later_list_at t.header) (lists_used t.header))))
          ∙ ap₂ {C = List ℤ} ◌++◌ begin-again (lists-again t.header (lists_used t.header) few-used (sym header-length) list-small unused-zero)
          ∙ take-append-drop header_lists t.header)

  accounts-again : write_all account_words (book_of t).accounts ≡ t.accounts
  unfolding book_of
  accounts-again =
      let e = accounts-length in
      write_all-read account_width account_from account_words StorableAccount account-codec t.accounts (accounts_in t) (omega arith)
      (λ i q. rw (tabulate-at _ (accounts_in t) i unused q) at (account-storable (book_of t).day (book_of t) near i (rw length-sound-accounts q)))
      ∙ take_all (accounts_in t * account_width) t.accounts (omega arith)

  rows-again : write_all row_words (book_of t).rows ≡ take (rows_used t * row_width) t.journal
  rows-again =
      let e = journal-length in
      let u = used_le in
      rw sound-rows
      (write_all-read row_width row_from row_words StorableRow row-codec t.journal (rows_used t) (omega arith)
      (λ i q. rw (sound-rows, tabulate-at _ (rows_used t) i blank q) at (row-storable (book_of t).day (book_of t) near i (rw length-sound-rows q))))

  rest-again : replicate ((room_in t - rows_used t) * row_width) (pos 0) ≡ drop (rows_used t * row_width) t.journal
  unfolding later_rows_zero
  rest-again =
      let e = journal-length in
      let u = used_le in
      let n : length (drop (rows_used t * row_width) t.journal) ≡ (room_in t - rows_used t) * row_width = length-drop (rows_used t * row_width) t.journal ∙ omega arith in
      sym (zeros 1 (drop (rows_used t * row_width) t.journal) (sound-part 2) ∙ rw n)

  pub tables_of-book_of : tables_of (book_of t) ≡ t
  unfolding tables_of
  tables_of-book_of =
      let room : (book_of t).room ≡ room_in t = unfold book_of in refl in
      let days : (book_of t).holidays ≡ holidays_in t = unfold book_of in refl in
      let fits : holidays_fit (holidays_in t) ≡ true = rw days at near.holidays in
      rw (header-again, accounts-again, rows-again, length-sound-rows, room, rest-again, take-append-drop, days, holidays-again t.holidays fits)

-- ---- a sound book's tables are sound

pub sound_tables-tables_of : (b : Book) → sound b ≡ true → sound_tables (tables_of b) ≡ true
unfolding sound_tables all_of
sound_tables-tables_of b s = rw (lengths-fit, used-fits, rest-zero, lists-zero, book_of-tables_of b n, s)
  where
    n : Near b.day b
    n = (sound-facts b s).near

    lengths-fit : lengths_fit (tables_of b) ≡ true
    lengths-fit = unfold lengths_fit whole_records in
        (let r = length-journal b n in
        let a = length-accounts b n in
        let h : length (tables_of b).header ≡ header_width = unfold tables_of in length-header b n in
        rw (
          eq-eqb (length (tables_of b).header) header_width h,
          eq-eqb (length (tables_of b).accounts % account_width) 0 (omega arith),
          eq-eqb (length (tables_of b).journal % row_width) 0 (omega arith),
          accounts-tables_of b n,
          room-tables_of b n,
        ) n.sizes)

    used-fits : used_fits (tables_of b) ≡ true
    used-fits = unfold used_fits in (rw (used-tables_of b n, room-tables_of b n) (le-leb (length b.rows) b.room (fits b n)))

    rest-zero : later_rows_zero (tables_of b) ≡ true
    rest-zero = unfold later_rows_zero tables_of in
        (rw (
          used-tables_of b n,
          drop_at (write_all row_words b.rows) (replicate ((b.room - length b.rows) * row_width) (pos 0)) (length b.rows * row_width)
              (length-write_all row_width row_from row_words StorableRow row-codec b.rows),
        )
        (every-replicate zero_word 1 ((b.room - length b.rows) * row_width) (pos 0) (λ k. unfold zero_word nat_of in refl)))

    lists-zero : unused_lists_zero (tables_of b) ≡ true
    lists-zero = unfold unused_lists_zero tables_of in
        (rw (lists-used b n, header-parts b n, rest)
        (every-replicate zero_word 1 ((later_lists - length (later b n)) * list_width) (pos 0) (λ k. unfold zero_word nat_of in refl)))
      where
        rest : drop (header_lists + length (later b n) * list_width) (begin b n ++ later_lists_words (later b n)) ≡ replicate ((later_lists - length (later b n)) * list_width) (pos 0)
        rest = unfold later_lists_words in
            (rw (← length-begin b n)
            (drop-append-add (begin b n) (write_all list_words (later b n) ++ replicate ((later_lists - length (later b n)) * list_width) (pos 0)) (length (later b n) * list_width)
            ∙ drop_at (write_all list_words (later b n)) (replicate ((later_lists - length (later b n)) * list_width) (pos 0)) (length (later b n) * list_width)
            (length-write_all list_width list_from list_words StorableList list-codec (later b n))))
