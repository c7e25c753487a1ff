-- Opening: the tables that it writes are those of the opened book.
use mathlib.Core.Path.{◌≡◌, refl, sym, ap, ◌∙◌}
use mathlib.Core.Bool.{Bool, true, not}
use Prim.Native.Nat.{ℕ, zero, suc, ◌+◌, ◌*◌, ◌-◌, ◌≤◌}
use native.Mathlib.Omega.{arith}
use mathlib.Core.List.{List, [], ◌∷◌, ◌++◌, map, append-nil}
use lib.IntN.{ℤ, pos}
use lib.ListN.{length, get_or, set, take, drop, replicate, length-append, length-set, length-drop, replicate-append-replicate, drop_of_length-le}
use lib.Seq.{length-take-le, paste, length-paste, take_all, take_at, drop-cons, append_snoc, set_at}
use borrow.Author.Tests.{not-false}
use borrow.Rule.Slice.PartMut.{put_mid}
use Rattle.std.proofs.lemmas.Slice.{put_mid-paste}
use Rattle.records.specs.Layout.{header_width, day_place, used_place, header_schedule, header_first_day, header_lists, later_lists, list_width, account_width, opening_width, first_day_place, opening_schedule, opening_rates}
use Rattle.records.specs.declared.refusals.Refusal.{Refusal}
use Rattle.records.specs.Outcomes.{number_of}
use Rattle.records.proofs.OutcomeLaws.{number_of-not_0}
use Rattle.records.specs.Numbers.{answer_unsound, answer_malformed, answer_holidays}
use Rattle.records.specs.Encoding.{nat_of, word, account_words, write_all}
use Rattle.records.proofs.EncodingLaws.{plain}
use Rattle.lists.specs.Tests.{first}
use Rattle.lists.specs.Lists.{tabulate}
use Rattle.lists.proofs.TestLaws.{first-none}
use Rattle.lists.proofs.ListLaws.{tabulate-get_d}
use Rattle.records.specs.Limits.{final_day}
use Rattle.rules.specs.Book.{unused}
use Rattle.rules.specs.BusinessDays.{holidays_fit}
use Rattle.rules.specs.Opening.{opening, day_fits}
use Rattle.rules.specs.Tables.{Tables, tables_at, tables_with, whole_records, accounts_in, room_in, schedule_from, rates_from, schedule_words, rates_words, later_lists_words, header_words, tables_of, lengths_fit}
use Rattle.call_rules.specs.Calls.{Gives, opening_fits, opening_refusals, opened_book, open_call}
use Rattle.rules.proofs.StorableLaws.{between_le, schedule-storable, rates-storable}
use Rattle.call_rules.proofs.OpenCallLaws.{OpeningWords, opening-words}
use Rattle.rules.proofs.HolidayLaws.{holidays-again}
use Rattle.sound_header.proofs.LengthLaws.{Lengths, lengths-known}

-- ---- the header

-- as many words are copied as have their places
pub copied-fits : (h w : List ℤ) (a b : ℤ) → length h ≡ header_width → length w ≡ opening_width
    → length (take 10 (drop 2 (set (set h 0 a) 1 b))) ≡ length (take (length w - 1) (drop 1 w))
copied-fits h w a b l n =
    length-take-le 10 (drop 2 (set (set h 0 a) 1 b)) (omega (arith, length-drop 2 (set (set h 0 a) 1 b), length-set (set h 0 a) 1 b, length-set h 0 a))
    ∙ sym (ap (λ (x : List ℤ). length x) (take_all (length w - 1) (drop 1 w) (omega (arith, length-drop 1 w))) ∙ length-drop 1 w ∙ omega arith)

-- two words stored, ten copied behind them, and one more: nothing is left of the first thirteen
thirteen : (a b d : ℤ) (h s : List ℤ) → length h ≡ header_width → length s ≡ 10 → take 13 (set (paste (set (set h 0 a) 1 b) 2 s 10) 12 d) ≡ a ∷ b ∷ (s ++ (d ∷ []))
thirteen a b d [] s l n = absurd (omega arith)
thirteen a b d (x ∷ []) s l n = absurd (omega arith)
thirteen a b d (x ∷ y ∷ h) s l n =
    let r : List ℤ = drop 11 h in
    let c : drop 10 h ≡ get_or h 10 (pos 0) ∷ r = drop-cons h 10 (pos 0) (omega arith) in
    ap (λ (z : List ℤ). a ∷ b ∷ z)
    (rw (c, take_all 10 s (omega arith), set_at s (get_or h 10 (pos 0)) r d 10 n, ← append_snoc s d r)
    (take_at (s ++ (d ∷ [])) r 11 (length-append s (d ∷ []) ∙ omega arith)))

module _ (w : List ℤ) (e : opening_fits w ≡ true) where
  given : OpeningWords w
  given = opening-words w e

  pub words-given : length w ≡ opening_width
  words-given = given.width

  day-small : word w first_day_place ≤ final_day
  unfolding day_fits
  day-small = between_le 1 final_day (word w first_day_place) given.day

  -- the words of schedule and rates are those given
  words-again : schedule_words (schedule_from w opening_schedule) ++ rates_words (rates_from w opening_rates) ≡ drop opening_schedule w
  unfolding schedule_words schedule_from rates_words rates_from tabulate
  words-again =
      let l = words-given in
      let s = schedule-storable (schedule_from w opening_schedule) given.schedule in
      let r = rates-storable (rates_from w opening_rates) given.rates in
      rw (
        plain w 1 (omega (arith, s.stage)),
        plain w 2 (omega (arith, s.fee2)),
        plain w 3 (omega (arith, s.fee3)),
        plain w 4 (omega (arith, s.fee4)),
        plain w 5 (omega (arith, r.tag1)),
        plain w 6 (omega (arith, r.plate1)),
        plain w 7 (omega (arith, r.tag2)),
        plain w 8 (omega (arith, r.plate2)),
        plain w 9 (omega (arith, r.tag3)),
        plain w 10 (omega (arith, r.plate3)),
      )
      (tabulate-get_d w opening_schedule 10 (pos 0) (omega arith) ∙ take_all 10 (drop opening_schedule w) (omega (arith, length-drop opening_schedule w)))

  abbrev day-word : ℤ
  day-word = get_or w first_day_place (pos 0)

  -- the header of the opened book, in the words given
  header-words : (t : Tables) → (day-word ∷ pos 0 ∷ (drop opening_schedule w ++ (day-word ∷ []))) ++ replicate (later_lists * list_width) (pos 0) ≡ header_words (opened_book t w)
  unfolding header_words opened_book opening later_lists_words write_all
  header-words t = rw (← words-again, ← plain w first_day_place (omega (arith, day-small))) joined
    where
      joined : (pos (word w first_day_place) ∷ pos 0 ∷ (schedule_words (schedule_from w opening_schedule) ++ rates_words (rates_from w opening_rates) ++ (pos (word w first_day_place) ∷ []))) ++ replicate (later_lists * list_width) (pos 0)
          ≡ (pos (word w first_day_place) ∷ pos 0 ∷ schedule_words (schedule_from w opening_schedule))
          ++ ((rates_words (rates_from w opening_rates) ++ (pos (word w first_day_place) ∷ [])) ++ replicate (later_lists * list_width) (pos 0))
      joined = unfold schedule_words rates_words in refl

  -- the header when the words are copied, and the first day to the first list
  abbrev pub copied : List ℤ → List ℤ
  copied h = set (paste (set (set h day_place day-word) used_place (pos 0)) header_schedule (drop opening_schedule w) 10) header_first_day day-word

  pub length-copied : (h : List ℤ) → length h ≡ header_width → length (copied h) ≡ header_width
  length-copied h l =
      let n : length (set (set h day_place day-word) used_place (pos 0)) ≡ header_width = length-set (set h day_place day-word) used_place (pos 0) ∙ length-set h day_place day-word ∙ l in
      length-set (paste (set (set h day_place day-word) used_place (pos 0)) header_schedule (drop opening_schedule w) 10) header_first_day day-word
      ∙ length-paste (set (set h day_place day-word) used_place (pos 0)) header_schedule (drop opening_schedule w) 10 (omega arith) (omega (arith, length-drop opening_schedule w, words-given))
      ∙ n

  pub header-opened : (h : List ℤ) → length h ≡ header_width → (t : Tables)
      → take header_lists (copied h) ++ replicate (length (copied h) - header_lists) (pos 0) ≡ header_words (opened_book t w)
  header-opened h l t =
      let n : length (copied h) - header_lists ≡ later_lists * list_width = omega (arith, length-copied h l) in
      rw (n, thirteen day-word (pos 0) day-word h (drop opening_schedule w) l (length-drop opening_schedule w ∙ omega (arith, words-given)))
      (header-words t)

  -- the header as each step leaves it: the words stored, those from the opening's schedule on copied, the first day stored again
  abbrev pub stored : List ℤ → List ℤ → ℤ → List ℤ
  stored h n d = set (put_mid header_schedule 10 (set (set h day_place d) used_place (pos 0)) n) header_first_day d

  pub stored-copied : (h n : List ℤ) (d : ℤ) → d ≡ day-word → n ≡ drop opening_schedule w → stored h n d ≡ copied h
  stored-copied h n d q r =
      rw (q, r)
      (ap (λ (x : List ℤ). set x header_first_day day-word)
      (put_mid-paste header_schedule 10 (set (set h day_place day-word) used_place (pos 0)) (drop opening_schedule w) (drop opening_schedule w) 10 refl refl (omega (arith, length-drop opening_schedule w, words-given))))

  -- the words after it all 0
  pub header-written : (h n z : List ℤ) (d : ℤ) → length h ≡ header_width → d ≡ day-word → n ≡ take (length w - opening_schedule) (drop opening_schedule w)
      → z ≡ replicate (length (take (length (stored h n d) - header_lists) (drop header_lists (stored h n d)))) (pos 0) → (t : Tables)
      → put_mid header_lists (length (stored h n d) - header_lists) (stored h n d) z ≡ header_words (opened_book t w)
  header-written h n z d l q r v t =
      let k = stored-copied h n d q (r ∙ take_all (length w - opening_schedule) (drop opening_schedule w) (omega (arith, length-drop opening_schedule w))) in
      let m = length-copied h l in
      let rest : List ℤ = drop header_lists (copied h) in
      let count : ℕ = length (copied h) - header_lists in
      let o : length rest ≡ count = length-drop header_lists (copied h) in
      let p : drop count rest ≡ [] = drop_of_length-le rest (omega (arith, o)) in
      let u : length (take count rest) ≡ count = ap (λ (x : List ℤ). length x) (take_all count rest (omega (arith, o))) ∙ o in
      rw (v, k, u, p, append-nil (replicate count (pos 0))) (header-opened h l t)

-- ---- tables all 0

accounts-cleared : (n : ℕ) → write_all account_words (replicate n unused) ≡ replicate (n * account_width) (pos 0)
unfolding write_all account_words
accounts-cleared zero = refl
accounts-cleared (suc n) =
    let e : suc n * account_width ≡ account_width + n * account_width = omega arith in
    rw (accounts-cleared n, e) (replicate-append-replicate account_width (n * account_width) (pos 0))

-- ---- the call, with what its tests came to

module _ (hs : List ℤ) (t : Tables) (w : List ℤ) where
  abbrev lent-with : Tables
  lent-with = tables_with hs t

  -- the lengths are those of the three other tables
  pub refusals-by : (l f y : Bool) → lengths_fit t ≡ l → opening_fits w ≡ f → holidays_fit (map nat_of hs) ≡ y
      → first ((answer_unsound, not l) ∷ (answer_malformed, not f) ∷ (answer_holidays, not y) ∷ []) ≡ first (opening_refusals lent-with w)
  unfolding opening_refusals lengths_fit whole_records
  refusals-by l f y p q r = rw (p, q, r)

  pub opening-refused : (r : Refusal) → number_of r ≡ first (opening_refusals lent-with w) → Gives (open_call lent-with w) (pos (number_of r)) lent-with []
  unfolding open_call
  opening-refused r q = rw (← q) (record { number = refl; tables = rw (number_of-not_0 r); answers = refl })

-- what an opening that is not refused has shown
pub record Taken (h a j hs w : List ℤ) : Type 0 where
  pub refusal : first (opening_refusals (tables_at h a j hs) w) ≡ 0
  pub lengths : Lengths h a j
  pub words : opening_fits w ≡ true
  pub holidays : holidays_fit (map nat_of hs) ≡ true

module _ (h a j hs w : List ℤ) where
  abbrev t : Tables
  t = tables_at h a j hs

  pub taken : 0 ≡ first (opening_refusals t w) → Taken h a j hs w
  unfolding opening_refusals lengths_fit whole_records
  taken q =
      let x = first-none (answer_unsound, not (lengths_fit t)) _ (omega arith) (sym q) in
      let y = first-none (answer_malformed, not (opening_fits w)) _ (omega arith) x.1 in
      let z = first-none (answer_holidays, not (holidays_fit (map nat_of hs))) [] (omega arith) y.1 in
      record {
        refusal = sym q;
        lengths = lengths-known h a j (not-false _ x.0);
        words = not-false _ y.0;
        holidays = not-false _ z.0;
      }

  pub opened : Taken h a j hs w
      → Gives (open_call t w)
      (pos 0)
      (tables_at (header_words (opened_book t w)) (replicate (length a) (pos 0)) (replicate (length j) (pos 0)) hs)
      []
  unfolding open_call
  opened k = record { number = rw k.refusal; tables = rw k.refusal opened-tables; answers = refl }
    where
      opened-tables : tables_at (header_words (opened_book t w)) (replicate (length a) (pos 0)) (replicate (length j) (pos 0)) hs ≡ tables_of (opened_book t w)
      opened-tables = unfold tables_of opened_book opening write_all in
          (let r : room_in t - 0 ≡ room_in t = omega arith in
          rw (accounts-cleared (accounts_in t), k.lengths.whole_accounts, r, k.lengths.whole_rows, holidays-again hs k.holidays))
