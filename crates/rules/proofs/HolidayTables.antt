-- Tables with other holidays: sound where the three other tables are and the holidays fit, and read as the book with those holidays.
use mathlib.Core.Path.{◌≡◌, refl}
use mathlib.Core.Bool.{Bool, true, false, ◌&&◌}
use mathlib.Core.List.{List, [], map}
use lib.IntN.{ℤ}
use Rattle.records.specs.Encoding.{nat_of}
use Rattle.lists.specs.Tests.{all_of}
use Rattle.lists.specs.Lists.{every_from}
use Rattle.rules.specs.BusinessDays.{holidays_fit}
use Rattle.rules.specs.Book.{Book, with_holidays}
use Rattle.rules.specs.Tables.{Tables, tables_with, book_of, tables_of, header_words, lengths_fit, whole_records, used_fits, later_rows_zero, unused_lists_zero, sound_tables}
use Rattle.rules.proofs.HolidayLaws.{holidays-again, sound-with_holidays}
use Rattle.rules.proofs.TableLaws.{sound-part, sound-book}

-- the empty list fits
pub none-fit : holidays_fit [] ≡ true
unfolding holidays_fit every_from
none-fit = refl

-- a test that holds just where two others do is their conjunction
both_or_neither : (c a b : Bool) → (c ≡ true → a ≡ true) → (c ≡ true → b ≡ true) → (a ≡ true → b ≡ true → c ≡ true) → c ≡ a && b
both_or_neither true a b f g h = rw (f refl, g refl)
both_or_neither false true true f g h = h refl refl
both_or_neither false true false f g h = refl
both_or_neither false false b f g h = refl

module _ (hs : List ℤ) (t : Tables) where
  pub book_of-tables_with : book_of (tables_with hs t) ≡ with_holidays (map nat_of hs) (book_of t)
  unfolding book_of
  book_of-tables_with = refl

  -- the holidays of sound tables fit
  pub sound-holidays : sound_tables (tables_with hs t) ≡ true → holidays_fit (map nat_of hs) ≡ true
  unfolding book_of
  sound-holidays s = (sound-book (tables_with hs t) s).near.holidays

  -- with others that fit they are sound too
  pub sound-others : sound_tables (tables_with hs t) ≡ true → (ks : List ℤ) → holidays_fit (map nat_of ks) ≡ true → sound_tables (tables_with ks t) ≡ true
  unfolding sound_tables all_of lengths_fit whole_records used_fits later_rows_zero unused_lists_zero
  sound-others s ks f =
      let p = sound-part (tables_with hs t) s in
      rw (p 0, p 1, p 2, p 3, book_of-others) (rw (sound-with_holidays (map nat_of ks) (book_of (tables_with hs t)) f (p 4)))
    where
      book_of-others : book_of (tables_with ks t) ≡ with_holidays (map nat_of ks) (book_of (tables_with hs t))
      book_of-others = unfold book_of in refl

-- so with none
pub sound-without : (hs : List ℤ) (t : Tables) → sound_tables (tables_with hs t) ≡ true → sound_tables (tables_with [] t) ≡ true
sound-without hs t s = sound-others hs t s [] none-fit

-- the test of tables with holidays is the test of the three others, and of the holidays
pub sound_tables-with : (hs : List ℤ) (t : Tables) → sound_tables (tables_with hs t) ≡ sound_tables (tables_with [] t) && holidays_fit (map nat_of hs)
sound_tables-with hs t =
    both_or_neither _ _ _ (sound-without hs t) (sound-holidays hs t) (λ s f. sound-others [] t s hs f)

-- a book's tables with other holidays
pub tables_of-with_holidays : (hs : List ℤ) (b : Book) → holidays_fit (map nat_of hs) ≡ true → tables_of (with_holidays (map nat_of hs) b) ≡ tables_with hs (tables_of b)
unfolding tables_of header_words
tables_of-with_holidays hs b f = rw (holidays-again hs f)
