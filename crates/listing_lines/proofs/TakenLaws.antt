-- Lines 1, 2, 3 and the event lines, each taken as the listing's definition says.
use mathlib.Core.Path.{◌≡◌, refl, sym, ap, ◌∙◌}
use mathlib.Core.Bool.{Bool, true, false, not, cond, ◌&&◌, true≢false}
use Prim.Native.Nat.{ℕ, zero, suc, ◌+◌, ◌-◌, ◌*◌, ◌≤◌}
use native.Mathlib.Omega.{arith}
use mathlib.Core.List.{List, [], ◌∷◌, ◌++◌, append-nil}
use lib.IntN.{ℤ, pos}
use lib.ListN.{length, length-replicate}
use borrow.Author.Tests.{eq-eqb, ne_eqb}
use Rattle.records.specs.Layout.{header_width, account_width, row_width, opening_width, event_width}
use Rattle.records.specs.Encoding.{instruction_from}
use Rattle.lists.specs.Tests.{◌is◌, first}
use Rattle.decimal.specs.Decimal.{is_numbers, numbers_of}
use Rattle.rules.specs.Book.{Book, Instruction, Answer}
use Rattle.rules.specs.Successors.{forwarded}
use Rattle.rules.specs.Posting.{receive}
use Rattle.rules.specs.Tables.{Tables, book_of, tables_of, whole_records, lengths_fit, sound_tables}
use Rattle.call_rules.specs.Calls.{Gives, opening_refusals, opened_book, open_call}
use Rattle.rules.proofs.SoundnessLaws.{facts-sound}
use Rattle.rules.proofs.TableLaws.{sound-book, sound_tables-tables_of}
use Rattle.call_rules.proofs.OpenCallLaws.{open_call-sound, book_of-open_call}
use Rattle.preservation.proofs.SoundKept.{post-keeps-sound}
use Rattle.call_rules.proofs.CallsKept.{book_of-sound}
use Rattle.event_heirs.specs.Heirs.{Receives}
use Rattle.listing_rules.specs.Texts.{bad_line, same, opening_names, event_names, answer_text}
use Rattle.listing_rules.specs.Listing.{listed_accounts, listed_rows, listing_tables, opens, is_good, posted, book_by, good_text}
use Rattle.listing_rules.specs.Sizes.{most_answer_bytes, most_bad_line_bytes}
use Rattle.listing_lines.specs.Lines.{Sized, Ready, Verdict, answer_names, line_text, Judged, Carried, Taken}
use Rattle.std.specs.Prelude.{◌≢◌, Result, Ok, Err, is_ok, IsErr}
use Rattle.records.specs.declared.refusals.Refusal.{Refusal}
use Rattle.records.specs.Outcomes.{number_by}
use Rattle.records.proofs.OutcomeLaws.{number_of-not_0}
use Rattle.std.specs.Cmp.Lexicographic.{pointwise}
use lib.Dec.{eqb}

-- ---- bad and good lines

module _ (n : ℕ) (t u : Tables) (l : List ℕ) (r : Verdict) where
  -- a bad line
  pub judged-bad : is_good n l ≡ false → is_ok r ≡ false → Judged n t u l r
  judged-bad e g = record {
    good = g ∙ sym e;
    book = λ q. absurd (true≢false (sym q ∙ e));
    ready = λ q. absurd (true≢false (sym q ∙ e));
  }

  -- a good line, and the book after it
  pub judged-good : is_good n l ≡ true → is_ok r ≡ true → book_of u ≡ book_by n (book_of t) l → Ready (n + 1) u → Judged n t u l r
  judged-good e g k w = record { good = g ∙ sym e; book = λ q. k; ready = λ q. w }

  -- nothing is printed for it
  pub carried-bad : (b : List ℕ) → is_good n l ≡ false → is_ok r ≡ false → Carried n t u l b b r
  carried-bad b e g = record { judged = judged-bad e g; text = rw (e, append-nil b) refl; short = omega arith }

  pub carried-good : (b c : List ℕ) → is_good n l ≡ true → Judged n t u l r → c ≡ b ++ good_text n (book_of t) l
      → length c ≤ length b + most_answer_bytes → Carried n t u l b c r
  carried-good b c e j p s = record { judged = j; text = rw e p; short = s }

  -- nothing is printed for it either way
  pub carried-silent : (b : List ℕ) → Judged n t u l r → [] ≡ good_text n (book_of t) l → Carried n t u l b b r
  carried-silent b j e = record { judged = j; text = go (is_good n l); short = omega arith }
    where
      go : (g : Bool) → b ≡ b ++ cond g (good_text n (book_of t) l) []
      go true = rw (← e, append-nil b) refl
      go false = rw (append-nil b) refl

  -- a bad line is printed as such
  pub taken-bad : (b c d : List ℕ) → is_ok r ≡ false → Carried n t u l b c r → d ≡ c ++ bad_line (n + 1)
      → length d ≤ length c + most_bad_line_bytes → Taken n t u l b d r
  unfolding line_text
  taken-bad b c d g w p s =
      let e : is_good n l ≡ false = sym w.judged.good ∙ g in
      let same : c ≡ b = rw (e, append-nil b) at w.text in
      record {
        good = w.judged.good;
        text = rw e (rw same at p);
        short = omega (arith, s, ap length same);
        book = w.judged.book;
        ready = w.judged.ready;
      }

  pub taken-good : (b c : List ℕ) → is_ok r ≡ true → Carried n t u l b c r → Taken n t u l b c r
  unfolding line_text
  taken-good b c g w =
      let e : is_good n l ≡ true = sym w.judged.good ∙ g in
      record {
        good = w.judged.good;
        text = rw e (rw e at w.text);
        short = w.short;
        book = w.judged.book;
        ready = w.judged.ready;
      }

-- ---- names

-- the test of two slices is that of the listing's definition
pub pointwise-same : (xs ys : List ℕ) → pointwise eqb xs ys ≡ same xs ys
unfolding same
pointwise-same [] [] = refl
pointwise-same [] (y ∷ ys) = refl
pointwise-same (x ∷ xs) [] = refl
pointwise-same (x ∷ xs) (y ∷ ys) = ap (λ (b : Bool). eqb x y && b) (pointwise-same xs ys)

pub names-other : (xs ys : List ℕ) → true ≡ not (pointwise eqb xs ys) → false ≡ same xs ys
names-other xs ys e = go (pointwise eqb xs ys) e ∙ pointwise-same xs ys
  where
    go : (b : Bool) → true ≡ not b → false ≡ b
    go true q = sym q
    go false q = refl

pub names-same : (xs ys : List ℕ) → false ≡ not (pointwise eqb xs ys) → true ≡ same xs ys
names-same xs ys e = go (pointwise eqb xs ys) e ∙ pointwise-same xs ys
  where
    go : (b : Bool) → false ≡ not b → true ≡ b
    go true q = refl
    go false q = sym q

-- an error is not ok
pub bad-verdict : (r : Verdict) → IsErr r → is_ok r ≡ false
bad-verdict (Ok x) e = sym e
bad-verdict (Err x) e = refl

-- ---- lines 1 and 3: names

pub first_good : (l : List ℕ) → is_good 0 l ≡ same l opening_names
unfolding is_good
first_good l = refl

pub third-good : (l : List ℕ) → is_good 2 l ≡ same l event_names
unfolding is_good
third-good l = refl

-- nothing is printed for line 1, the answers' names for line 3; the book stays
module _ (t : Tables) (l b : List ℕ) (r : Verdict) where
  pub carried-first : is_ok r ≡ is_good 0 l → Ready 0 t → Carried 0 t t l b b r
  unfolding good_text book_by
  carried-first g h = carried-silent 0 t t l r b (record {
    good = g;
    book = λ q. refl;
    ready = λ q. record { sized = h.sized; sound = λ k. absurd (omega arith) };
  }) refl

  pub carried-third : (c : List ℕ) → is_ok r ≡ is_good 2 l → c ≡ b ++ cond (is_good 2 l) answer_names [] → length c ≤ length b + most_answer_bytes
      → Ready 2 t → Carried 2 t t l b c r
  unfolding good_text book_by
  carried-third c g p s h = record {
    judged = record {
      good = g;
      book = λ q. refl;
      ready = λ q. record { sized = h.sized; sound = λ k. h.sound (omega arith) };
    };
    text = p;
    short = s;
  }

  -- nor for line 2
  pub carried-second : (u : Tables) → Judged 1 t u l r → Carried 1 t u l b b r
  unfolding good_text
  carried-second u j = carried-silent 1 t u l r b j refl

-- ---- line 2: the opening

-- the listing's tables have its sizes
listing-sized : Sized listing_tables
unfolding listing_tables
listing-sized = record { header = length-replicate header_width (pos 0); accounts = length-replicate (listed_accounts * account_width) (pos 0); journal = length-replicate (listed_rows * row_width) (pos 0); holidays = refl }

-- opening reads nothing of the tables but their lengths and the holidays
refusals-sized : (t u : Tables) (w : List ℤ) → Sized t → Sized u → opening_refusals t w ≡ opening_refusals u w
unfolding opening_refusals lengths_fit whole_records
refusals-sized t u w p q = rw (p.header, p.accounts, p.journal, q.header, q.accounts, q.journal, p.holidays, q.holidays) refl

opened-sized : (t u : Tables) (w : List ℤ) → Sized t → Sized u → opened_book t w ≡ opened_book u w
unfolding opened_book
opened-sized t u w p q = rw (p.accounts, p.journal, q.accounts, q.journal, p.holidays, q.holidays) refl

-- not as many numbers
pub second-unread : (l : List ℕ) → false ≡ is_numbers opening_width l → is_good 1 l ≡ false
unfolding is_good opens
second-unread l e = rw (← e) refl

module _ (t u : Tables) (l : List ℕ) (w : List ℤ) (n : ℕ) (s : Sized t) (read : is_numbers opening_width l ≡ true) (e : w ≡ numbers_of l) (o : Gives (open_call t w) (pos n) u []) where
  number-given : n ≡ (open_call t w).number
  number-given = let e : pos n ≡ pos (open_call t w).number = o.number in cc

  number_is : n ≡ first (opening_refusals listing_tables (numbers_of l))
  unfolding open_call
  number_is = number-given ∙ ap first (refusals-sized t listing_tables w s listing-sized) ∙ ap (λ (x : List ℤ). first (opening_refusals listing_tables x)) e

  second_is : is_good 1 l ≡ n is 0
  unfolding is_good opens
  second_is = rw (read, ← number_is) refl

  -- the opening refuses it
  pub second-refused : (n ≡ 0 → ⊥) → is_good 1 l ≡ false
  second-refused h = second_is ∙ ne_eqb n 0 h

  module _ (z : n ≡ 0) where
    pub second-good : is_good 1 l ≡ true
    second-good = second_is ∙ eq-eqb n 0 z

    zero_number : (open_call t w).number ≡ 0
    zero_number = sym number-given ∙ z

    pub second-book : book_of u ≡ book_by 1 (book_of t) l
    unfolding book_by
    second-book = ap book_of o.tables ∙ book_of-open_call t w zero_number ∙ opened-sized t listing_tables w s listing-sized ∙ ap (opened_book listing_tables) e

    pub second-sound : sound_tables u ≡ true
    second-sound = rw o.tables (open_call-sound t w zero_number)

-- ---- event lines

module _ (l : List ℕ) where
  pub event-good : (n : ℕ) → 3 ≤ n → is_good n l ≡ is_numbers event_width l
  unfolding is_good
  event-good zero h = absurd (omega arith)
  event-good (suc zero) h = absurd (omega arith)
  event-good (suc (suc zero)) h = absurd (omega arith)
  event-good (suc (suc (suc n))) h = refl

  pub event-text : (n : ℕ) (b : Book) → 3 ≤ n → good_text n b l ≡ answer_text (n - 2) (receive b (instruction_from (numbers_of l))).answer
  unfolding good_text posted
  event-text zero b h = absurd (omega arith)
  event-text (suc zero) b h = absurd (omega arith)
  event-text (suc (suc zero)) b h = absurd (omega arith)
  event-text (suc (suc (suc n))) b h = refl

  event-book : (n : ℕ) (b : Book) → 3 ≤ n → book_by n b l ≡ (receive b (instruction_from (numbers_of l))).book
  unfolding book_by posted
  event-book zero b h = absurd (omega arith)
  event-book (suc zero) b h = absurd (omega arith)
  event-book (suc (suc zero)) b h = absurd (omega arith)
  event-book (suc (suc (suc n))) b h = refl

-- an event line's event is posted on sound tables
module _ (n : ℕ) (t u : Tables) (l : List ℕ) (w : List ℤ) (e : Instruction) (a : Answer) (h : 3 ≤ n) (s : sound_tables t ≡ true) (v : w ≡ numbers_of l)
    (i : e ≡ instruction_from w) (p : Receives t u e a) where
  book-kept : sound_tables (tables_of (receive (book_of t) e).book) ≡ true
  book-kept = sound_tables-tables_of _ (post-keeps-sound (book_of t) (forwarded (book_of t) e) (facts-sound (book_of t) (sound-book t s)))

  pub posted-text : answer_text (n - 2) a ≡ good_text n (book_of t) l
  posted-text = ap (answer_text (n - 2)) p.answer ∙ rw (i, v) (sym (event-text l n (book_of t) h))

  pub posted-book : book_of u ≡ book_by n (book_of t) l
  posted-book =
      ap book_of p.tables ∙ book_of-sound _ (post-keeps-sound (book_of t) (forwarded (book_of t) e) (facts-sound (book_of t) (sound-book t s))) ∙ rw (i, v) (sym (event-book l n (book_of t) h))

  pub posted-sound : sound_tables u ≡ true
  posted-sound = rw p.tables book-kept

-- ---- the number of an opening

pub refused-number : {A : Type 0} (r : Result A Refusal) → is_ok r ≡ false → number_by r ≢ 0
refused-number (Ok x) h = absurd (true≢false h)
refused-number (Err f) h = λ z. absurd (true≢false (sym (eq-eqb _ _ z) ∙ number_of-not_0 f))

pub opened-number : {A : Type 0} (r : Result A Refusal) → is_ok r ≡ true → number_by r ≡ 0
opened-number (Ok x) h = refl
opened-number (Err f) h = absurd (true≢false (sym h))
