-- What the pass over the holidays and the search by halves leave to show.
use mathlib.Core.Path.{◌≡◌, refl, sym, ap, ◌∙◌}
use mathlib.Core.Bool.{Bool, true, false, not, ◌&&◌, ◌||◌, and-false, true≢false}
use Prim.Native.Nat.{ℕ, zero, suc, ◌+◌, ◌-◌, ◌≤◌, ◌<◌}
use native.Mathlib.Omega.{arith}
use mathlib.Core.List.{List, map}
use lib.IntN.{ℤ, pos}
use lib.ListN.{length, get_or, get_or-map, length-map}
use lib.Dec.{leb, ltb}
use borrow.Author.Tests.{le-leb, lt-leb, lt-ltb, le-ltb, eq-eqb, ne_eqb, ltb-true, ltb-false}
use Rattle.lists.specs.Tests.{◌is◌, ◌from◌to◌}
use Rattle.lists.proofs.TestLaws.{and_right, and_both, or_left, or_right}
use Rattle.lists.proofs.ListLaws.{every-at, every-all}
use Rattle.lists.proofs.ExistsLaws.{exists-some, none-exists}
use Rattle.records.specs.Encoding.{nat_of, word}
use Rattle.records.specs.Limits.{final_day, most_holidays}
use Rattle.rules.specs.BusinessDays.{saturday, sunday, holiday, business_day, holiday_no, holiday_fits, holidays_fit}

-- a word that is read is the holiday at its place
pub word-listed : (t : List ℤ) (k : ℕ) → word t k ≡ get_or (map nat_of t) k 0
unfolding word nat_of
word-listed t k = sym (get_or-map nat_of t k (pos 0))

pub length-listed : (t : List ℤ) → length (map nat_of t) ≡ length t
length-listed t = length-map t nat_of

-- the code's test of a holiday, p the one before it
bounds : (p h : ℕ) → (h from 1 to final_day) && ltb p h ≡ not (ltb h (p + 1) || ltb final_day h)
bounds p h = go (ltb h (p + 1)) (ltb final_day h) refl refl
  where
    go : (a b : Bool) → ltb h (p + 1) ≡ a → ltb final_day h ≡ b → (h from 1 to final_day) && ltb p h ≡ not (a || b)
    go true b e f = rw (le-ltb p h (omega (arith, ltb-true h (p + 1) e))) (and-false (h from 1 to final_day))
    go false true e f =
        rw (lt-leb h final_day (ltb-true final_day h f), and-false (leb 1 h)) refl
    go false false e f =
        let l = ltb-false h (p + 1) e in
        let m = ltb-false final_day h f in
        and_both _ _ (and_both _ _ (le-leb 1 h (omega arith)) (le-leb h final_day m)) (lt-ltb p h (omega arith))

module _ (hs : List ℕ) where
  -- ---- the pass over the list

  pub too-many : most_holidays < length hs → holidays_fit hs ≡ false
  unfolding holidays_fit
  too-many h = rw (lt-leb (length hs) most_holidays h)

  -- the first n holidays fit
  abbrev pub FirstFit : ℕ → Type 0
  FirstFit n = (k : ℕ) → k < n → holiday_fits hs (k + 1) (get_or hs k 0) ≡ true

  pub all-fit : length hs ≤ most_holidays → FirstFit (length hs) → holidays_fit hs ≡ true
  unfolding holidays_fit
  all-fit h f =
      and_both _ _ (le-leb (length hs) most_holidays h)
      (every-all (holiday_fits hs) 1 hs 0 (λ k n e l. let m : n ≡ k + 1 = omega arith in rw m (f k l)))

  pub fit-each : holidays_fit hs ≡ true → FirstFit (length hs)
  unfolding holidays_fit
  fit-each f k l = every-at (holiday_fits hs) 1 hs 0 (and_right (leb (length hs) most_holidays) _ f) k (k + 1) (omega arith) l

  pub unfit-at : (k : ℕ) → k < length hs → holiday_fits hs (k + 1) (get_or hs k 0) ≡ false → holidays_fit hs ≡ false
  unfit-at k l e = go (holidays_fit hs) refl
    where
      go : (b : Bool) → holidays_fit hs ≡ b → b ≡ false
      go true f = sym (fit-each f k l) ∙ e
      go false f = refl

  -- holiday n as the code tests it, counted from 0
  module _ (n day least : ℕ) (d : day ≡ get_or hs n 0) (b : least ≡ holiday_no hs n + 1) where
    pub tested : holiday_fits hs (n + 1) (get_or hs n 0) ≡ not (ltb day least || ltb final_day day)
    unfolding holiday_fits
    tested = let z : n + 1 - 1 ≡ n = omega arith in rw (z, b, d) (bounds (holiday_no hs n) (get_or hs n 0))

    pub fit-more : ltb day least || ltb final_day day ≡ false → FirstFit n → FirstFit (n + 1)
    fit-more e f k l = go (ltb k n) refl
      where
        go : (t : Bool) → ltb k n ≡ t → holiday_fits hs (k + 1) (get_or hs k 0) ≡ true
        go true q = f k (ltb-true k n q)
        go false q = let s : k ≡ n = omega (arith, ltb-false k n q) in rw s (tested ∙ ap not e)

  -- ---- the order

  next-later : holidays_fit hs ≡ true → (k : ℕ) → suc k < length hs → get_or hs k 0 < get_or hs (suc k) 0
  next-later f k l =
      let z : suc k + 1 - 1 ≡ suc k = omega arith in
      let e : ltb (holiday_no hs (suc k + 1 - 1)) (get_or hs (suc k) 0) ≡ true = unfold holiday_fits in
      and_right (get_or hs (suc k) 0 from 1 to final_day) _ (fit-each f (suc k) l) in
      ltb-true _ _ (rw z at e)

  -- holidays that fit are in strictly rising order
  pub listed-rising : holidays_fit hs ≡ true → (i j : ℕ) → i < j → j < length hs → get_or hs i 0 < get_or hs j 0
  listed-rising f i zero b l = absurd (omega arith)
  listed-rising f i (suc j) b l = go (λ h. listed-rising f i j h (omega arith)) (ltb i j) refl
    where
      go : (i < j → get_or hs i 0 < get_or hs j 0) → (t : Bool) → ltb i j ≡ t → get_or hs i 0 < get_or hs (suc j) 0
      go earlier true e = omega (arith, earlier (ltb-true i j e), next-later f j l)
      go earlier false e = let s : i ≡ j = omega (arith, ltb-false i j e) in rw s (next-later f j l)

  -- ---- the search by halves

  -- the day is none of those before place a, nor of those from place b on
  pub record Narrowed (day a b : ℕ) : Type 0 where
    pub ordered : a ≤ b
    pub within : b ≤ length hs
    pub before : (k : ℕ) → k < a → get_or hs k 0 < day
    pub after : (k : ℕ) → b ≤ k → k < length hs → day < get_or hs k 0

  pub narrowed-none : (day : ℕ) → Narrowed day 0 (length hs)
  narrowed-none day = record {
    ordered = omega arith;
    within = omega arith;
    before = λ k l. absurd (omega arith);
    after = λ k b l. absurd (omega arith);
  }

  module _ (f : holidays_fit hs ≡ true) (day a b m : ℕ) (n : Narrowed day a b) (low : a ≤ m) (high : m < b) where
    -- a holiday before the day: those up to it are, too
    pub narrowed-up : get_or hs m 0 < day → Narrowed day (m + 1) b
    narrowed-up h = record { ordered = omega arith; within = n.within; before = up; after = n.after }
      where
        up : (k : ℕ) → k < m + 1 → get_or hs k 0 < day
        up k l = go (ltb k m) refl
          where
            go : (t : Bool) → ltb k m ≡ t → get_or hs k 0 < day
            go true e = omega (arith, listed-rising f k m (ltb-true k m e) (omega (arith, n.within)), h)
            go false e = let s : k ≡ m = omega (arith, ltb-false k m e) in rw s h

    -- a holiday after the day: those from it on are, too
    pub narrowed-down : day < get_or hs m 0 → Narrowed day a m
    narrowed-down h = record { ordered = low; within = omega (arith, n.within); before = n.before; after = down }
      where
        down : (k : ℕ) → m ≤ k → k < length hs → day < get_or hs k 0
        down k g l = go (ltb m k) refl
          where
            go : (t : Bool) → ltb m k ≡ t → day < get_or hs k 0
            go true e = omega (arith, listed-rising f m k (ltb-true m k e) l, h)
            go false e = let s : k ≡ m = omega (arith, ltb-false m k e) in rw s h

  -- a holiday that is the day
  pub listed-found : (day k : ℕ) → k < length hs → get_or hs k 0 ≡ day → holiday hs day ≡ true
  unfolding holiday
  listed-found day k l e = exists-some (λ h. h is day) hs 0 k l (eq-eqb _ _ e)

  -- no place left
  pub listed-none : (day a b : ℕ) → b ≤ a → Narrowed day a b → holiday hs day ≡ false
  unfolding holiday
  listed-none day a b e n = none-exists (λ h. h is day) hs 0 (λ k l. go k l (ltb k a) refl)
    where
      go : (k : ℕ) → k < length hs → (t : Bool) → ltb k a ≡ t → get_or hs k 0 is day ≡ false
      go k l true q = ne_eqb _ _ (λ s. omega (arith, n.before k (ltb-true k a q), s))
      go k l false q = ne_eqb _ _ (λ s. omega (arith, n.after k (omega (arith, ltb-false k a q)) l, s))

  -- ---- business days

  pub weekend-shut : (day : ℕ) → saturday day || sunday day ≡ true → business_day hs day ≡ false
  unfolding business_day
  weekend-shut day = go (saturday day) (sunday day)
    where
      go : (a b : Bool) → a || b ≡ true → not a && not b && not (holiday hs day) ≡ false
      go true b e = refl
      go false true e = refl
      go false false e = absurd (true≢false (sym e))

  pub weekday-open : (day : ℕ) → saturday day || sunday day ≡ false → business_day hs day ≡ not (holiday hs day)
  unfolding business_day
  weekday-open day e = rw (or_left (saturday day) (sunday day) e, or_right (saturday day) (sunday day) e)
