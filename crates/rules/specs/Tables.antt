-- The lent tables (document 01, "The book"; the fourth is document 02's, No. 6), read as a book and written from one.
use Rattle.std.specs.Prelude.{Bool, ◌&&◌, ℕ, ◌+◌, ◌*◌, ◌-◌, ◌/◌, ◌%◌, min, List, [], ◌∷◌, ◌++◌, map, length, drop, replicate, leb, ltb, ℤ, pos}
use Rattle.records.specs.Layout
use Rattle.records.specs.Encoding.{nat_of, word, accounts_of, rows_of, account_words, row_words, write_all}
use Rattle.lists.specs.Tests.{◌is◌, all_of}
use Rattle.lists.specs.Lists.{count, every, tabulate}
use Rattle.rules.specs.Schedule.{Rates, Schedule}
use Rattle.rules.specs.RateLists.{RateList, list_no}
use Rattle.rules.specs.Book.{Book}
use Rattle.rules.specs.Opening.{sizes_fit}
use Rattle.rules.specs.Soundness.{sound}

-- "Three lent tables of signed 64-bit numbers"; "that list itself stays as the book's fourth table"
pub record Tables : Type 0 where
  pub header : List ℤ
  pub accounts : List ℤ
  pub journal : List ℤ
  pub holidays : List ℤ

-- the tables by their words
abbrev pub tables_at : List ℤ → List ℤ → List ℤ → List ℤ → Tables
tables_at h a j hs = record { header = h; accounts = a; journal = j; holidays = hs }

-- header, accounts and journal, the three that events write, as the tables of a book without holidays
abbrev pub three_tables : List ℤ → List ℤ → List ℤ → Tables
three_tables h a j = tables_at h a j []

-- the tables t with those three written
abbrev pub tables_over : Tables → List ℤ → List ℤ → List ℤ → Tables
tables_over t h a j = tables_at h a j t.holidays

-- the tables with other holidays
abbrev pub tables_with : List ℤ → Tables → Tables
tables_with hs t = tables_at t.header t.accounts t.journal hs

-- how many accounts and rows the tables have room for, and how many rows the header says are used
abbrev pub accounts_in : Tables → ℕ
accounts_in t = length t.accounts / Layout.account_width

-- how many rows the third table has room for
abbrev pub room_in : Tables → ℕ
room_in t = length t.journal / Layout.row_width

-- "rows used", as the header says
abbrev pub rows_used : Tables → ℕ
rows_used t = word t.header Layout.used_place

-- ---- reading

-- the holidays of any tables: each word is a day
abbrev pub holidays_in : Tables → List ℕ
holidays_in t = map nat_of t.holidays

-- the schedule whose words start at a place
unfoldable pub schedule_from : List ℤ → ℕ → Schedule
schedule_from t p = record {
  stage = word t (p + Layout.stage_place);
  fee2 = word t (p + Layout.fee2_place);
  fee3 = word t (p + Layout.fee3_place);
  fee4 = word t (p + Layout.fee4_place);
}

-- the six rates whose words start at a place
unfoldable pub rates_from : List ℤ → ℕ → Rates
rates_from t p = record {
  tag1 = word t (p + Layout.tag1_place);
  plate1 = word t (p + Layout.plate1_place);
  tag2 = word t (p + Layout.tag2_place);
  plate2 = word t (p + Layout.plate2_place);
  tag3 = word t (p + Layout.tag3_place);
  plate3 = word t (p + Layout.plate3_place);
}

-- the first list of a header, its rates among the words of document 01: "its 12, the first list's first day" (document 02, No. 1)
unfoldable pub first_list_in : List ℤ → RateList
first_list_in h = record { first_day = word h Layout.header_first_day; rates = rates_from h Layout.header_rates }

-- "then seven lists (first day, rates)": the one whose words start at a place
unfoldable pub list_from : List ℤ → ℕ → RateList
list_from t p = record { first_day = word t (p + Layout.list_day_place); rates = rates_from t (p + Layout.list_rates_place) }

-- list i after the first, counted from 0
abbrev pub later_list_at : List ℤ → ℕ → RateList
later_list_at h i = list_from h (Layout.header_lists + i * Layout.list_width)

-- how many of the seven are used: those that have a first day
unfoldable pub lists_used : List ℤ → ℕ
lists_used h = count (λ l. ltb 0 l.first_day) (tabulate (later_list_at h) Layout.later_lists)

-- the lists of a header: the first, and the used ones of the seven
unfoldable pub lists_in : List ℤ → List RateList
lists_in h = first_list_in h ∷ tabulate (later_list_at h) (lists_used h)

-- the book of any tables; a negative count of rows reads past every limit, so never more rows than there are
unfoldable pub book_of : Tables → Book
book_of t = record {
  day = word t.header Layout.day_place;
  schedule = schedule_from t.header Layout.header_schedule;
  lists = lists_in t.header;
  accounts = accounts_of t.accounts (accounts_in t);
  rows = rows_of t.journal (min (rows_used t) (room_in t));
  room = room_in t;
  holidays = holidays_in t;
}

-- ---- writing

-- "stage length L, fees for stages 2, 3, 4"
unfoldable pub schedule_words : Schedule → List ℤ
schedule_words s = map pos (s.stage ∷ s.fee2 ∷ s.fee3 ∷ s.fee4 ∷ [])

-- "six rates: class 1 tag, class 1 plate, then classes 2 and 3 likewise"
unfoldable pub rates_words : Rates → List ℤ
rates_words r = map pos (r.tag1 ∷ r.plate1 ∷ r.tag2 ∷ r.plate2 ∷ r.tag3 ∷ r.plate3 ∷ [])

-- "(first day, rates)"
unfoldable pub list_words : RateList → List ℤ
list_words l = pos l.first_day ∷ rates_words l.rates

-- the lists after the first, "unused ones last and all 0"
unfoldable pub later_lists_words : List RateList → List ℤ
later_lists_words ls = write_all list_words ls ++ replicate ((Layout.later_lists - length ls) * Layout.list_width) (pos 0)

-- "its 12, the first list's first day, then seven lists": day, rows used, the schedule, the lists
unfoldable pub header_words : Book → List ℤ
header_words b =
    (pos b.day ∷ pos (length b.rows) ∷ schedule_words b.schedule)
    ++ ((rates_words (list_no b.lists 1).rates ++ (pos (list_no b.lists 1).first_day ∷ [])) ++ later_lists_words (drop 1 b.lists))

-- the tables of a book: the rows past the used ones are all 0
unfoldable pub tables_of : Book → Tables
tables_of b = record {
  header = header_words b;
  accounts = write_all account_words b.accounts;
  journal = write_all row_words b.rows ++ replicate ((b.room - length b.rows) * Layout.row_width) (pos 0);
  holidays = map pos b.holidays;
}

-- ---- "A book is sound when"

-- "The header has 62 words", "Accounts, 7 words each" and two words that came later, "Journal, 10 words a row": no word over
unfoldable pub whole_records : Tables → Bool
whole_records t =
    length t.header is Layout.header_width && length t.accounts % Layout.account_width is 0
    && length t.journal % Layout.row_width is 0

-- "the lengths are exactly those above"
unfoldable pub lengths_fit : Tables → Bool
lengths_fit t = whole_records t && sizes_fit (accounts_in t) (room_in t)

-- "rows used": no more than there are
unfoldable pub used_fits : Tables → Bool
used_fits t = leb (rows_used t) (room_in t)

-- the word is 0
unfoldable pub zero_word : ℕ → ℤ → Bool
zero_word i w = nat_of w is 0

-- "later rows .. are all 0"
unfoldable pub later_rows_zero : Tables → Bool
later_rows_zero t = every zero_word (drop (rows_used t * Layout.row_width) t.journal)

-- "unused ones last and all 0": every word after the used lists (document 02, No. 1)
unfoldable pub unused_lists_zero : Tables → Bool
unused_lists_zero t = every zero_word (drop (Layout.header_lists + lists_used t.header * Layout.list_width) t.header)

-- the whole paragraph, on any tables
unfoldable pub sound_tables : Tables → Bool
sound_tables t = all_of (lengths_fit t ∷ used_fits t ∷ later_rows_zero t ∷ unused_lists_zero t ∷ sound (book_of t) ∷ [])
