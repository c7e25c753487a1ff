-- Laws of the rate lists: which list is in force on a day, what a sound book's lists are, and one list more.
use mathlib.Core.Path.{◌≡◌, refl, ◌∙◌}
use mathlib.Core.Bool.{Bool, true, false, cond, ◌&&◌}
use Prim.Native.Nat.{ℕ, zero, suc, ◌+◌, ◌-◌, ◌≤◌, ◌<◌}
use native.Mathlib.Omega.{arith}
use mathlib.Core.List.{List, [], ◌∷◌, ◌++◌}
use lib.ListN.{length, get_or, length-append, get_or-append}
use lib.Seq.{get_or-append_seam}
use lib.Dec.{leb, ltb}
use borrow.Author.Tests.{leb-true, le-leb, ltb-true, lt-ltb, leb-false}
use Rattle.lists.specs.Tests.{◌from◌to◌}
use Rattle.lists.specs.Lists.{every}
use Rattle.lists.proofs.TestLaws.{and_left, and_right, and_both, cond_either}
use Rattle.lists.proofs.ListLaws.{every-at, every-all}
use Rattle.records.specs.Limits.{final_day, most_lists}
use Rattle.rules.specs.Schedule.{rates_fit}
use Rattle.rules.specs.RateLists.{RateList, no_list, list_no, last_begun, in_force, last_first_day, list_in_range, list_fits, lists_fit}

-- ---- the list in force: "the last list whose first day is at most the passage day", and "the first list where there is none"

-- has the list begun by the day
abbrev pub begun : ℕ → RateList → Bool
begun day l = leb l.first_day day

last_begun-append : (day : ℕ) (l : RateList) (ls ms : List RateList) → last_begun day l (ls ++ ms) ≡ last_begun day (last_begun day l ls) ms
unfolding last_begun
last_begun-append day l [] ms = refl
last_begun-append day l (m ∷ ls) ms = last_begun-append day (cond (begun day m) m l) ls ms

-- none of them has begun
pub last_begun-none : (day : ℕ) (l : RateList) (ls : List RateList) → ((k : ℕ) → k < length ls → begun day (get_or ls k no_list) ≡ false) → last_begun day l ls ≡ l
unfolding last_begun
last_begun-none day l [] f = refl
last_begun-none day l (m ∷ ls) f = rw (f 0 (omega arith)) (last_begun-none day l ls (λ k h. f (suc k) (omega arith)))

-- the last list that has begun is in force, whatever comes before it
pub in_force-last : (day : ℕ) (ls : List RateList) (l : RateList) (ms : List RateList) → begun day l ≡ true
    → ((k : ℕ) → k < length ms → begun day (get_or ms k no_list) ≡ false) → in_force (ls ++ (l ∷ ms)) day ≡ l
unfolding in_force last_begun
in_force-last day ls l ms e f =
    last_begun-append day (list_no (ls ++ (l ∷ ms)) 1) ls (l ∷ ms) ∙ rw e (last_begun-none day l ms f)

-- where none has begun, the first list is: "The first list covers every earlier day"
pub in_force-first : (day : ℕ) (ls : List RateList) → ((k : ℕ) → k < length ls → begun day (get_or ls k no_list) ≡ false) → in_force ls day ≡ list_no ls 1
unfolding in_force
in_force-first day ls f = last_begun-none day (list_no ls 1) ls f

-- where none after the first has begun, the first list is
pub in_force-alone : (day : ℕ) (l : RateList) (ls : List RateList) → ((k : ℕ) → k < length ls → begun day (get_or ls k no_list) ≡ false) → in_force (l ∷ ls) day ≡ l
unfolding in_force last_begun
in_force-alone day l ls f = go (begun day l)
  where
    go : (v : Bool) → last_begun day (cond v l l) ls ≡ l
    go true = last_begun-none day l ls f
    go false = last_begun-none day l ls f

-- what holds of each list holds of the last that has begun
last_begun-in-range : (day : ℕ) (l : RateList) (ls : List RateList) → list_in_range l ≡ true → ((k : ℕ) → k < length ls → list_in_range (get_or ls k no_list) ≡ true)
    → list_in_range (last_begun day l ls) ≡ true
unfolding last_begun
last_begun-in-range day l [] p f = p
last_begun-in-range day l (m ∷ ls) p f =
    last_begun-in-range day (cond (begun day m) m l) ls (cond_either (λ (x : RateList). list_in_range x ≡ true) (begun day m) m l (f 0 (omega arith)) p) (λ k h. f (suc k) (omega arith))

-- ---- a sound book's lists

module _ (ls : List RateList) (f : lists_fit ls ≡ true) where
  abbrev size-part : Bool
  size-part = length ls from 1 to most_lists

  size_fits : size-part ≡ true
  unfolding lists_fit
  size_fits = and_left size-part (every (list_fits ls) ls) f

  pub some-list : 1 ≤ length ls
  some-list = leb-true 1 (length ls) (and_left (leb 1 (length ls)) (leb (length ls) most_lists) size_fits)

  pub few-lists : length ls ≤ most_lists
  few-lists = leb-true (length ls) most_lists (and_right (leb 1 (length ls)) (leb (length ls) most_lists) size_fits)

  list-fits : (k : ℕ) → k < length ls → list_fits ls (suc k) (get_or ls k no_list) ≡ true
  unfolding lists_fit
  list-fits k h = every-at (list_fits ls) 1 ls no_list (and_right size-part (every (list_fits ls) ls) f) k (suc k) (omega arith) h

  pub list-in-range : (k : ℕ) → k < length ls → list_in_range (get_or ls k no_list) ≡ true
  unfolding list_fits
  list-in-range k h = and_left _ _ (list-fits k h)

  -- each begins after the one before it
  pub list-rises : (k : ℕ) → suc k < length ls → (get_or ls k no_list).first_day < (get_or ls (suc k) no_list).first_day
  unfolding list_fits
  list-rises k h =
      let z : suc (suc k) - 1 ≡ suc k = omega arith in
      ltb-true _ _ (rw z at (and_right (list_in_range (get_or ls (suc k) no_list)) _ (list-fits (suc k) h)))

  -- so every later one begins after every earlier one
  pub lists-rise : (k n : ℕ) → k + suc n < length ls → (get_or ls k no_list).first_day < (get_or ls (k + suc n) no_list).first_day
  lists-rise k zero h = let e : k + 1 ≡ suc k = omega arith in rw e (list-rises k (rw e at h))
  lists-rise k (suc n) h =
      let e : k + suc (suc n) ≡ suc (k + suc n) = omega arith in
      rw e (omega (arith, lists-rise k n (omega arith), list-rises (k + suc n) (rw e at h)))

  -- the list in force is one of them
  in_force-in-range : (day : ℕ) → list_in_range (in_force ls day) ≡ true
  unfolding in_force
  in_force-in-range day = last_begun-in-range day (list_no ls 1) ls (list-in-range 0 some-list) list-in-range

  -- so its rates are in range
  pub in_force-rates : (day : ℕ) → rates_fit (in_force ls day).rates ≡ true
  unfolding list_in_range
  in_force-rates day = and_right ((in_force ls day).first_day from 1 to final_day) (rates_fit (in_force ls day).rates) (in_force-in-range day)

-- ---- one list more

pub lists-more : (ls : List RateList) (l : RateList) → lists_fit ls ≡ true → length ls < most_lists → list_in_range l ≡ true → last_first_day ls < l.first_day
    → lists_fit (ls ++ (l ∷ [])) ≡ true
unfolding lists_fit list_fits
lists-more ls l f few r later =
    let n : length (ls ++ (l ∷ [])) ≡ length ls + 1 = length-append ls (l ∷ []) in
    let size : length (ls ++ (l ∷ [])) from 1 to most_lists ≡ true = rw n (and_both _ _ (le-leb 1 (length ls + 1) (omega arith)) (le-leb (length ls + 1) most_lists (omega arith))) in
    and_both _ _ size (every-all _ 1 (ls ++ (l ∷ [])) no_list (λ k m q h. each k m q (omega (arith, n))))
  where
    earlier : (k : ℕ) → k ≤ length ls → get_or (no_list ∷ (ls ++ (l ∷ []))) k no_list ≡ get_or (no_list ∷ ls) k no_list
    earlier zero h = refl
    earlier (suc k) h = get_or-append ls (l ∷ []) no_list k (omega arith)

    each : (k m : ℕ) → m ≡ 1 + k → k ≤ length ls → list_in_range (get_or (ls ++ (l ∷ [])) k no_list) && ltb (list_no (ls ++ (l ∷ [])) (m - 1)).first_day (get_or (ls ++ (l ∷ [])) k no_list).first_day ≡ true
    each k m q h =
        let z : m - 1 ≡ k = omega arith in
        rw (z, earlier k h) (at k h (leb (length ls) k) refl)
      where
        at : (k : ℕ) → k ≤ length ls → (v : Bool) → leb (length ls) k ≡ v
            → list_in_range (get_or (ls ++ (l ∷ [])) k no_list) && ltb (get_or (no_list ∷ ls) k no_list).first_day (get_or (ls ++ (l ∷ [])) k no_list).first_day ≡ true
        at k h true e =
            let q : k ≡ length ls = omega (arith, leb-true (length ls) k e) in
            rw (q, get_or-append_seam ls l [] no_list) (and_both _ _ r (lt-ltb _ _ later))
        at k h false e =
            let b : k < length ls = leb-false (length ls) k e in
            let z : suc k - 1 ≡ k = omega arith in
            let w : list_in_range (get_or ls k no_list) && ltb (list_no ls (suc k - 1)).first_day (get_or ls k no_list).first_day ≡ true = list-fits ls f k b in
            rw (get_or-append ls (l ∷ []) no_list k b) (rw z at w)
