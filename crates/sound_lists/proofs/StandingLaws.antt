-- What the passes over the header's rate lists leave to show.
use mathlib.Core.Path.{◌≡◌, refl, sym, ap, ◌∙◌}
use mathlib.Core.Logic.{◌≢◌}
use mathlib.Core.Bool.{Bool, true, false, ◌&&◌}
use Prim.Native.Nat.{ℕ, suc, ◌+◌, ◌-◌, ◌≤◌, ◌<◌}
use native.Mathlib.Omega.{arith}
use mathlib.Core.List.{List, [], ◌∷◌}
use lib.IntN.{ℤ, pos, negsuc}
use lib.ListN.{length, get_or, take, drop, length-drop}
use lib.Seq.{take-length}
use Rattle.std.specs.Bool.{MatchBool}
use Rattle.std.specs.List.{AllWithin, HoldsAt}
use lib.Dec.{leb, ltb}
use borrow.Author.Tests.{leb-true, le-leb, lt-ltb, eqb-true}
use Rattle.lists.specs.Tests.{◌from◌to◌}
use Rattle.lists.specs.Lists.{every_from, every, tabulate}
use Rattle.lists.proofs.TestLaws.{and_left, and_both}
use Rattle.lists.proofs.ListLaws.{every-at, every-all, every-ext, length-tabulate, tabulate-at}
use Rattle.records.specs.Layout.{header_first_day}
use Rattle.records.specs.Encoding.{nat_of, word}
use Rattle.records.specs.Limits.{final_day, most_lists}
use Rattle.rules.specs.Schedule.{rates_fit}
use Rattle.rules.specs.RateLists.{RateList, no_list, list_no, list_in_range, list_fits, lists_fit}
use Rattle.rules.specs.Tables.{first_list_in, later_list_at, lists_used, lists_in, zero_word}
use Rattle.table_lists.proofs.UsedLaws.{used-few}

-- ---- the lists, one after the other

-- list number n after the first, counted from 1: in range, and above the one before it
abbrev pub rises : List ℤ → ℕ → RateList → Bool
rises h n l = list_in_range l && ltb (list_no (lists_in h) n).first_day l.first_day

-- the first list begins after day 0, as every list in range does
first-rises : (l : RateList) → list_in_range l && ltb 0 l.first_day ≡ list_in_range l
first-rises l = go (list_in_range l) refl
  where
    one : list_in_range l ≡ true → 1 ≤ l.first_day
    one e = unfold list_in_range in
        leb-true 1 l.first_day (and_left (leb 1 l.first_day) (leb l.first_day final_day) (and_left (l.first_day from 1 to final_day) (rates_fit l.rates) e))

    go : (b : Bool) → list_in_range l ≡ b → b && ltb 0 l.first_day ≡ b
    go true e = lt-ltb 0 l.first_day (one e)
    go false e = refl

-- numbers counted from one more
every-later : {A : Type 0} (t : ℕ → A → Bool) (i : ℕ) (xs : List A) → every_from t (i + 1) xs ≡ every_from (λ n x. t (n + 1) x) i xs
unfolding every_from
every-later t i [] = refl
every-later t i (x ∷ xs) = rw (every-later t (i + 1) xs)

module _ (h : List ℤ) where
  abbrev later : List RateList
  later = tabulate (later_list_at h) (lists_used h)

  few-lists : length (lists_in h) from 1 to most_lists ≡ true
  unfolding lists_in
  few-lists =
      let n : length later ≡ lists_used h = length-tabulate (later_list_at h) (lists_used h) in
      and_both _ _ (le-leb 1 (suc (length later)) (omega arith)) (le-leb (suc (length later)) most_lists (omega (arith, used-few h)))

  later-rise : every_from (list_fits (lists_in h)) (1 + 1) later ≡ every (rises h) later
  unfolding list_fits
  later-rise =
      every-later (list_fits (lists_in h)) 1 later
      ∙ every-ext (λ n l. list_fits (lists_in h) (n + 1) l) (rises h) 1 later (λ n l. let z : n + 1 - 1 ≡ n = omega arith in rw z)

  every-list : every (list_fits (lists_in h)) (first_list_in h ∷ later) ≡ list_in_range (first_list_in h) && every (rises h) later
  unfolding every_from
  every-list = rw (later-rise, first)
    where
      first : list_fits (lists_in h) 1 (first_list_in h) ≡ list_in_range (first_list_in h)
      first = unfold list_fits in first-rises (first_list_in h)

  pub lists-parts : lists_fit (lists_in h) ≡ list_in_range (first_list_in h) && every (rises h) later
  unfolding lists_fit
  lists-parts = rw few-lists every-list'
    where
      every-list' : every (list_fits (lists_in h)) (lists_in h) ≡ list_in_range (first_list_in h) && every (rises h) later
      every-list' =
          let e : lists_in h ≡ first_list_in h ∷ later = unfold lists_in in refl in
          ap (every (list_fits (lists_in h))) e ∙ every-list

  -- the days that the pass compares with: the first list's, then each passed one's
  pub day-first : (list_no (lists_in h) 1).first_day ≡ word h header_first_day
  unfolding lists_in first_list_in
  day-first = refl

  pub day-later : (i : ℕ) → i < lists_used h → (list_no (lists_in h) (i + 1 + 1)).first_day ≡ (later_list_at h i).first_day
  unfolding lists_in
  day-later i b =
      let e : i + 1 + 1 ≡ suc (suc i) = omega arith in
      rw e (ap (λ (l : RateList). l.first_day) (tabulate-at (later_list_at h) (lists_used h) i no_list b))

-- ---- words that are 0

-- only 0 is read as 0
zero-alone : (w : ℤ) → nat_of w ≡ 0 → w ≡ pos 0
unfolding nat_of
zero-alone (pos n) e = ap pos e
zero-alone (negsuc n) e = absurd (omega arith)

-- each word is 0, or one is not
pub zeros-by : (t : List ℤ) (b : Bool)
    → MatchBool b (AllWithin (λ w. w ≡ pos 0) t 0 (length t)) ((k : ℕ) × (k < length t) × HoldsAt (λ w. w ≢ pos 0) t k)
    → b ≡ every zero_word t
unfolding zero_word nat_of
zeros-by t true f = sym (every-all zero_word 1 t (pos 0) (λ k m q h. rw (f k (pos 0) (omega arith) h) refl))
zeros-by t false f = go (every zero_word t) refl
  where
    go : (b : Bool) → every zero_word t ≡ b → false ≡ b
    go true e =
        let z : zero_word (f.0 + 1) (get_or t f.0 (pos 0)) ≡ true = every-at zero_word 1 t (pos 0) e f.0 (f.0 + 1) (omega arith) f.1 in
        absurd (f.2 (pos 0) (zero-alone _ (eqb-true _ 0 z)))
    go false e = refl

-- the words from a place on, as the code lends them
pub zeros-from : (t : List ℤ) (i : ℕ) → every zero_word (take (length t - i) (drop i t)) ≡ every zero_word (drop i t)
zeros-from t i =
    let n : length t - i ≡ length (drop i t) = sym (length-drop i t) in
    ap (every zero_word) (rw n (take-length (drop i t)))
