-- What the passes over the rows leave to show.
use mathlib.Core.Path.{◌≡◌, refl, sym, ap, ◌∙◌}
use mathlib.Core.Logic.{◌≢◌}
use mathlib.Core.Bool.{Bool, true, false, ◌&&◌, ◌||◌, and_assoc, and-true, and-false}
use Prim.Native.Nat.{ℕ, zero, suc, ◌+◌, ◌*◌, ◌-◌, ◌≤◌, ◌<◌}
use native.Mathlib.Omega.{arith}
use mathlib.Core.List.{List, [], ◌∷◌, ◌++◌}
use lib.IntN.{ℤ, pos}
use lib.ListN.{length, get_or, take, drop, take-append-drop}
use lib.Seq.{drop-drop, drop-length}
use lib.Dec.{eqb}
use borrow.Author.Tests.{eqb-true, eq-eqb, ne_eqb, lt-ltb, le-ltb, not-true}
use Rattle.std.specs.Prelude.{Option, Some}
use Rattle.std.specs.Option.{option_eq}
use Rattle.std.specs.Bool.{MatchBool}
use Rattle.std.specs.List.{range_with_len, AllWithin, HoldsAt}
use Rattle.std.proofs.lemmas.List.FromFn.{length-range_with_len, get_or-range_with_len}
use Rattle.lists.specs.Tests.{◌is◌, ◌implies◌, all_of}
use Rattle.lists.proofs.TestLaws.{all_of-at}
use Rattle.lists.specs.Lists.{every_from, tabulate}
use Rattle.lists.proofs.ListLaws.{tabulate-get_d, length-tabulate}
use Rattle.records.specs.Layout.{row_width}
use Rattle.records.specs.Encoding.{word, row_from, row_at, account_at, StorableRow}
use Rattle.records.specs.Limits.{final_day, longest_stage, most_accounts, most_rows}
use Rattle.rules.specs.Rows.{Row, kind_toll, kind_fee, kind_reversal, kind_payment, kind_credit, row_no}
use Rattle.rules.specs.Book.{Account}
use Rattle.rules.specs.Soundness.{kind_fits, amount_fits, settled_fits, mark_fits, toll_words_fit, no_reference, row_day_fits, due_fits, hold_fits, account_used, names, reference_fits}
use Rattle.rules.proofs.StorableLaws.{between_le, used-inside, amount-le, settled-le, mark-le, due-le, dispute-le, hold-le, reference-le}
use Rattle.rules.specs.Tables.{zero_word}
use Rattle.tables.specs.Changes.{RowIn}
use Rattle.plain_rows.specs.Alike.{AlikeRow}
use Rattle.plain_rows.proofs.AlikeLaws.{alike-first, alike-test}
use Rattle.sound_header.specs.Clauses.{own_words, row_alone, row_passes, empty_row, rest_zero}
use Rattle.sound_journal.specs.declared.frame.Frame.{Frame}
use Rattle.sound_journal.specs.Passing.{frame_accounts, frame_rows, passes_in}

-- ---- the row that is named

module _ (rows : List Row) (n : ℕ) (r : Row) (m : ℕ) where
  pub names-later : n ≤ r.reference → false ≡ names rows n r m
  unfolding names
  names-later h = rw (le-ltb r.reference n h)

  module _ (named : Row) (e : named ≡ row_no rows r.reference) where
    pub names-other : named.account ≢ r.account → false ≡ names rows n r m
    unfolding names
    names-other a = rw (← e, ne_eqb named.account r.account a, and-false)

    pub names_same : r.reference < n → named.account ≡ r.account → eqb named.kind m ≡ names rows n r m
    unfolding names
    names_same h a = rw (← e, lt-ltb r.reference n h, eq-eqb named.account r.account a, and-true)

-- the clause on references, by the kind of the row that is named
module _ (rows : List Row) (n : ℕ) (r : Row) (k : Option ℕ) (f : (m : ℕ) → option_eq eqb k (Some m) ≡ names rows n r m) where
  pub fits-fee : r.kind ≡ kind_fee → (option_eq eqb k (Some kind_toll) || option_eq eqb k (Some kind_payment)) ≡ reference_fits rows n r
  unfolding reference_fits
  fits-fee e = simp (e, f 1, f 4, and-true)

  pub fits-reversal : r.kind ≡ kind_reversal → option_eq eqb k (Some kind_payment) ≡ reference_fits rows n r
  unfolding reference_fits
  fits-reversal e = simp (e, f 4, and-true)

  pub fits-credit : r.kind ≢ kind_fee → r.kind ≢ kind_reversal → (r.kind is kind_credit implies option_eq eqb k (Some kind_toll)) ≡ reference_fits rows n r
  unfolding reference_fits
  fits-credit a b = rw (f 1, ne_eqb r.kind kind_fee a, ne_eqb r.kind kind_reversal b)

-- ---- rows that pass have small words

-- a row that stands
pub passes-small : (xs : List Account) (rows : List Row) (today L n : ℕ) → today ≤ final_day → L ≤ longest_stage → length xs ≤ most_accounts → n ≤ most_rows → (r : Row) → row_passes xs rows today L n r ≡ true → StorableRow r
passes-small xs rows today L n d l a m r e =
    record {
      kind = unfold kind_fits in omega (arith, between_le 1 6 r.kind (alone 0));
      account = unfold account_used in omega (arith, used-inside xs r.account (not-true _ (part 1)));
      day = unfold row_day_fits in omega (arith, between_le 1 today r.day (own 3));
      amount = omega (arith, amount-le r (alone 1));
      settled = omega (arith, amount-le r (alone 1), settled-le r (alone 2));
      mark = omega (arith, mark-le r (own 0));
      due = omega (arith, due-le r (own 1) today (today + L) (own 4));
      dispute = omega (arith, dispute-le r (own 1));
      hold = omega (arith, hold-le r (own 1) today L (own 5));
      reference = omega (arith, reference-le rows n r (alone 0) (own 1) (own 2) (part 2));
    }
  where
    part : (i : ℕ) → get_or (row_alone today L r ∷ account_used xs r ∷ reference_fits rows n r ∷ []) i true ≡ true
    part = unfold row_passes in all_of-at _ e

    alone : (i : ℕ) → get_or (kind_fits r ∷ amount_fits r ∷ settled_fits r ∷ own_words today L r ∷ []) i true ≡ true
    alone = unfold row_alone in all_of-at _ (part 0)

    own : (i : ℕ) → get_or (mark_fits r ∷ toll_words_fit r ∷ no_reference r ∷ row_day_fits today r ∷ due_fits today L r ∷ hold_fits today L r ∷ []) i true ≡ true
    own = unfold own_words in all_of-at _ (alone 3)

-- so it stands as it is read, and then it is the table's
module _ (f : Frame) (i : ℕ) (h : i < f.rows.used) (r : Row) (a : AlikeRow r (row_at f.rows.journal.now i)) where
  small-here : (s : Row) → passes_in f (i + 1) s ≡ true → StorableRow s
  small-here =
      let l = f.bounds in
      passes-small (frame_accounts f) (frame_rows f) f.term.today f.term.stage (i + 1) f.term.within.0 f.term.within.1 (omega (arith, l.fewer, length-tabulate (account_at f.accounts.now) f.count)) (omega (arith, l.few))

  pub passes-alike : passes_in f (i + 1) r ≡ passes_in f (i + 1) (row_at f.rows.journal.now i)
  passes-alike = alike-test (passes_in f (i + 1)) small-here r (row_at f.rows.journal.now i) a

  pub passes_same : passes_in f (i + 1) r ≡ true → r ≡ row_at f.rows.journal.now i
  passes_same e = alike-first r (row_at f.rows.journal.now i) a (small-here r e)

-- a toll and a payment refer to no row
pub toll-names-none : (rows : List Row) (n : ℕ) (r : Row) → r.kind ≡ kind_toll → reference_fits rows n r ≡ true
unfolding reference_fits
toll-names-none rows n r e = rw e

pub payment-names-none : (rows : List Row) (n : ℕ) (r : Row) → r.kind ≡ kind_payment → reference_fits rows n r ≡ true
unfolding reference_fits
payment-names-none rows n r e = rw e

-- an empty row
pub empty-small : (r : Row) → empty_row r ≡ true → StorableRow r
unfolding empty_row
empty-small r e =
    let zero-at : (i : ℕ) → get_or (eqb r.kind 0 ∷ eqb r.account 0 ∷ eqb r.day 0 ∷ eqb r.amount 0 ∷ eqb r.settled 0 ∷ eqb r.mark 0 ∷ eqb r.due 0 ∷ eqb r.dispute 0 ∷ eqb r.hold 0 ∷ eqb r.reference 0 ∷ []) i true ≡ true = all_of-at _ e in
    record {
      kind = omega (arith, eqb-true r.kind 0 (zero-at 0));
      account = omega (arith, eqb-true r.account 0 (zero-at 1));
      day = omega (arith, eqb-true r.day 0 (zero-at 2));
      amount = omega (arith, eqb-true r.amount 0 (zero-at 3));
      settled = omega (arith, eqb-true r.settled 0 (zero-at 4));
      mark = omega (arith, eqb-true r.mark 0 (zero-at 5));
      due = omega (arith, eqb-true r.due 0 (zero-at 6));
      dispute = omega (arith, eqb-true r.dispute 0 (zero-at 7));
      hold = omega (arith, eqb-true r.hold 0 (zero-at 8));
      reference = omega (arith, eqb-true r.reference 0 (zero-at 9));
    }

-- ---- words that are 0

every-zero-append : (i j k : ℕ) (xs ys : List ℤ) → every_from zero_word i (xs ++ ys) ≡ every_from zero_word j xs && every_from zero_word k ys
unfolding every_from zero_word
every-zero-append i j k [] [] = refl
every-zero-append i j k [] (y ∷ ys) = rw (every-zero-append (i + 1) 0 (k + 1) [] ys)
every-zero-append i j k (x ∷ xs) ys = rw (every-zero-append (i + 1) (j + 1) k xs ys, and_assoc)

-- a row's ten words
row_words_lem : (t : List ℤ) (p : ℕ) → p + row_width ≤ length t → every_from zero_word 1 (take row_width (drop p t)) ≡ empty_row (row_from t p)
unfolding tabulate every_from zero_word empty_row row_from word all_of
row_words_lem t p h = rw (← tabulate-get_d t p row_width (pos 0) h)

module _ (t : List ℤ) where
  pub rest_more : (i : ℕ) → RowIn t i → rest_zero t i ≡ empty_row (row_at t i) && rest_zero t (i + 1)
  unfolding rest_zero
  rest_more i h =
      let e : i * row_width + row_width ≡ (i + 1) * row_width = omega arith in
      ap (every_from zero_word 1) (sym (take-append-drop row_width (drop (i * row_width) t)))
      ∙ every-zero-append 1 1 1 (take row_width (drop (i * row_width) t)) (drop row_width (drop (i * row_width) t))
      ∙ rw (row_words_lem t (i * row_width) h, drop-drop row_width (i * row_width) t, e)

  pub rest-none : (i : ℕ) → i * row_width ≡ length t → rest_zero t i ≡ true
  unfolding rest_zero every_from
  rest-none i e = rw (e, drop-length t)

  -- so tests of the rows one by one decide: each from row i on is empty, or one is not
  abbrev pub EmptyIs : Bool → ℕ → Type 0
  EmptyIs b i = empty_row (row_at t i) ≡ b

  module _ (room : ℕ) (whole : length t ≡ room * row_width) where
    all-empty : (n i : ℕ) → i + n ≡ room → ((k : ℕ) → k < n → EmptyIs true (i + k)) → rest_zero t i ≡ true
    all-empty zero i e f = rest-none i (omega arith)
    all-empty (suc n) i e f =
        let z : i + 0 ≡ i = omega arith in
        let first : EmptyIs true i = rw z at (f 0 (omega arith)) in
        rest_more i (omega arith)
        ∙ rw first (all-empty n (i + 1) (omega arith) (λ k h.
        let z : i + 1 + k ≡ i + suc k = omega arith in rw z (f (suc k) (omega arith))))

    one-full : (k i : ℕ) → i + k < room → EmptyIs false (i + k) → rest_zero t i ≡ false
    one-full zero i h e =
        let z : i + 0 ≡ i = omega arith in
        let first : EmptyIs false i = rw z at e in
        rest_more i (omega arith) ∙ rw first
    one-full (suc k) i h e =
        let z : i + suc k ≡ i + 1 + k = omega arith in
        rest_more i (omega arith) ∙ rw (one-full k (i + 1) (omega arith) (rw z at e), and-false)

    abbrev later : ℕ → List ℕ
    later i = range_with_len i (room - i)

    pub rest-by : (i : ℕ) → i ≤ room → (b : Bool)
        → MatchBool b (AllWithin (EmptyIs true) (later i) 0 (length (later i))) ((k : ℕ) × (k < length (later i)) × HoldsAt (EmptyIs false) (later i) k)
        → b ≡ rest_zero t i
    rest-by i h true f =
        sym
        (all-empty (room - i) i (omega arith)
        (λ k q. rw (get_or-range_with_len i (room - i) k 0 q) at (f k 0 (omega arith) (rw length-range_with_len q))))
    rest-by i h false f =
        let q : f.0 < room - i = rw length-range_with_len at f.1 in
        sym (one-full f.0 i (omega arith) (rw (get_or-range_with_len i (room - i) f.0 0 q) at (f.2 0)))
