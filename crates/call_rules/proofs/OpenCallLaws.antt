-- Laws of opening as a call: where it gives 0, its tables are those of the opened book, and sound.
use mathlib.Core.Path.{◌≡◌, refl}
use mathlib.Core.Bool.{Bool, true, false, ◌&&◌}
use Prim.Native.Nat.{ℕ}
use mathlib.Core.List.{List}
use lib.ListN.{length}
use lib.IntN.{ℤ}
use borrow.Author.Tests.{not-false, eq-eqb, eqb-true}
use Rattle.records.specs.Numbers.{answer_unsound, answer_malformed, answer_holidays}
use Rattle.records.specs.Layout.{opening_width, first_day_place, opening_schedule, opening_rates}
use Rattle.records.specs.Encoding.{word}
use Rattle.lists.specs.Tests.{◌is◌, first}
use Rattle.lists.proofs.TestLaws.{and_left, and_right, positive, case_of, first-zero}
use Rattle.rules.specs.Schedule.{rates_fit, schedule_fits}
use Rattle.rules.specs.Opening.{day_fits, sizes_fit}
use Rattle.rules.specs.Soundness.{sound}
use Rattle.rules.specs.BusinessDays.{holidays_fit}
use Rattle.rules.specs.Tables.{Tables, accounts_in, room_in, holidays_in, schedule_from, rates_from, book_of, tables_of, whole_records, lengths_fit, sound_tables}
use Rattle.rules.proofs.SoundnessLaws.{sound-facts}
use Rattle.rules.proofs.HolidayLaws.{sound-with_holidays}
use Rattle.rules.proofs.OpeningLaws.{opening-sound}
use Rattle.rules.proofs.TableLaws.{book_of-tables_of, sound_tables-tables_of}
use Rattle.call_rules.specs.Calls.{opening_fits, opening_refusals, opened_book, open_call}

-- ---- the words that opening takes

pub record OpeningWords (w : List ℤ) : Type 0 where
  pub width : length w ≡ opening_width
  pub day : day_fits (word w first_day_place) ≡ true
  pub schedule : schedule_fits (schedule_from w opening_schedule) ≡ true
  pub rates : rates_fit (rates_from w opening_rates) ≡ true

pub opening-words : (w : List ℤ) → opening_fits w ≡ true → OpeningWords w
unfolding opening_fits
opening-words w e =
    let a : Bool = length w is opening_width in
    let b : Bool = day_fits (word w first_day_place) in
    let c : Bool = schedule_fits (schedule_from w opening_schedule) in
    let d : Bool = rates_fit (rates_from w opening_rates) in
    let f = and_left (a && b && c) d e in
    let g = and_left (a && b) c f in
    record { width = eqb-true _ _ (and_left a b g); day = and_right a b g; schedule = and_right (a && b) c f; rates = and_right (a && b && c) d e }

-- ---- the call: where it gives 0, its tables are those of the opened book, and sound

module _ (t : Tables) (w : List ℤ) (e : (open_call t w).number ≡ 0) where
  refusals-fail : (n : ℕ) → case_of (opening_refusals t w) n ≡ false
  unfolding open_call opening_refusals positive
  refusals-fail = first-zero (opening_refusals t w) refl e

  lengths-fit : lengths_fit t ≡ true
  unfolding opening_refusals case_of
  lengths-fit = not-false (lengths_fit t) (refusals-fail answer_unsound)

  words : OpeningWords w
  unfolding opening_refusals case_of
  words = opening-words w (not-false (opening_fits w) (refusals-fail answer_malformed))

  pub holidays-fit : holidays_fit (holidays_in t) ≡ true
  unfolding opening_refusals case_of
  holidays-fit = not-false (holidays_fit (holidays_in t)) (refusals-fail answer_holidays)

  pub opened_book-sound : sound (opened_book t w) ≡ true
  unfolding opened_book lengths_fit
  opened_book-sound =
      sound-with_holidays (holidays_in t) _ holidays-fit
      (opening-sound (word w first_day_place) (schedule_from w opening_schedule) (rates_from w opening_rates) (accounts_in t) (room_in t)
      words.day words.schedule words.rates
      (and_right (whole_records t) (sizes_fit (accounts_in t) (room_in t)) lengths-fit))

  pub open_call-tables : (open_call t w).tables ≡ tables_of (opened_book t w)
  unfolding open_call
  open_call-tables = rw (eq-eqb (first (opening_refusals t w)) 0 e)

  pub open_call-sound : sound_tables (open_call t w).tables ≡ true
  open_call-sound = rw open_call-tables (sound_tables-tables_of (opened_book t w) opened_book-sound)

  pub book_of-open_call : book_of (open_call t w).tables ≡ opened_book t w
  book_of-open_call = rw open_call-tables (book_of-tables_of (opened_book t w) (sound-facts (opened_book t w) opened_book-sound).near)
