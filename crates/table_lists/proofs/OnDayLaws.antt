-- The list that is in force on a day, found among the header's lists; and that a sound header's lists stand.
use mathlib.Core.Path.{◌≡◌, refl, sym, ap, ◌∙◌}
use mathlib.Core.Logic.{◌≢◌}
use mathlib.Core.Bool.{Bool, true, false, ◌||◌}
use Prim.Native.Nat.{ℕ, zero, suc, ◌+◌, ◌*◌, ◌-◌, ◌≤◌, ◌<◌}
use native.Mathlib.Omega.{arith}
use mathlib.Core.List.{List, ◌∷◌, ◌++◌}
use lib.IntN.{ℤ, pos}
use lib.ListN.{length, get_or, take, drop, length-drop}
use lib.Seq.{split_at, get_or-drop}
use lib.Dec.{leb, ltb}
use borrow.Author.Tests.{le-leb, lt-leb, leb-true, leb-false, ltb-true, ltb-false, eqb-true, eqb-false}
use Rattle.std.specs.Prelude.{Option, None, Some}
use Rattle.std.specs.Option.{MatchOption, unwrap_or}
use Rattle.std.specs.List.{range_with_len, AllWithin, HoldsAt}
use Rattle.std.proofs.lemmas.List.FromFn.{get_or-range_with_len}
use Rattle.lists.specs.Tests.{◌is◌, ◌from◌to◌}
use Rattle.lists.specs.Lists.{tabulate}
use Rattle.lists.proofs.TestLaws.{and_left, or_left, or_right}
use Rattle.lists.proofs.ListLaws.{length-tabulate, tabulate-at}
use Rattle.records.specs.Layout.{header_first_day, header_lists, later_lists, list_width}
use Rattle.records.specs.Limits.{final_day}
use Rattle.records.specs.Encoding.{nat_of, word}
use Rattle.rules.specs.Schedule.{rates_fit}
use Rattle.rules.specs.RateLists.{RateList, no_list, list_no, in_force, list_in_range, last_first_day}
use Rattle.rules.specs.Tables.{Tables, first_list_in, list_from, later_list_at, lists_used, lists_in, book_of, sound_tables}
use Rattle.rules.proofs.RateListLaws.{begun, in_force-last, in_force-alone, list-in-range, lists-rise}
use Rattle.rules.proofs.HeaderLaws.{zeros-at}
use Rattle.rules.proofs.TableLaws.{header-length, sound-book, unused-zero}
use Rattle.table_lists.specs.HeaderLists.{ListsStand, OnDay, unbegun}
use Rattle.table_lists.proofs.UsedLaws.{used-few}

module _ (h : List ℤ) where
  abbrev later : List RateList
  later = tabulate (later_list_at h) (lists_used h)

  later-length : length later ≡ lists_used h
  later-length = length-tabulate (later_list_at h) (lists_used h)

  pub later-list : (k : ℕ) → k < lists_used h → list_no (lists_in h) (suc (suc k)) ≡ later_list_at h k
  unfolding lists_in
  later-list k l = tabulate-at (later_list_at h) (lists_used h) k no_list l

  -- the last list's first day: the first's where no other is used
  pub last-first : lists_used h ≡ 0 → last_first_day (lists_in h) ≡ word h header_first_day
  unfolding lists_in first_list_in
  last-first e = ap (λ (n : ℕ). (get_or (no_list ∷ lists_in h) (suc n) no_list).first_day) (later-length ∙ e)

  pub last-later : (n : ℕ) → lists_used h ≡ suc n → last_first_day (lists_in h) ≡ (later_list_at h n).first_day
  last-later n e =
      ap (λ (n : ℕ). (list_no (lists_in h) n).first_day) lists_length ∙ ap (λ (x : RateList). x.first_day) (later-list n (omega arith))
    where
      lists_length : length (lists_in h) ≡ suc (suc n)
      lists_length = unfold lists_in in (ap suc (later-length ∙ e))

  -- ---- n lists after the first have begun, and those after them have not

  module _ (day n : ℕ) (within : n ≤ lists_used h) (before : (k : ℕ) → k < n → (later_list_at h k).first_day ≤ day)
      (after : (k : ℕ) → n ≤ k → k < lists_used h → day < (later_list_at h k).first_day) where
    not-begun : (k : ℕ) → k < length (drop n later) → begun day (get_or (drop n later) k no_list) ≡ false
    not-begun k l =
        let m : n + k < lists_used h = omega (arith, length-drop n later, later-length) in
        rw (get_or-drop n later k no_list, tabulate-at (later_list_at h) (lists_used h) (n + k) no_list m) (lt-leb _ _ (after (n + k) (omega arith) m))

    found : (m : ℕ) → n ≡ m → in_force (lists_in h) day ≡ list_no (lists_in h) (suc m)
    found zero e = unfold lists_in in (in_force-alone day (first_list_in h) later (λ k l. rw e at (not-begun k (rw e l))))
    found (suc m) e =
        let b : m < lists_used h = omega arith in
        let x : get_or later m no_list ≡ later_list_at h m = tabulate-at (later_list_at h) (lists_used h) m no_list b in
        let parts : lists_in h ≡ (first_list_in h ∷ take m later) ++ (get_or later m no_list ∷ drop (suc m) later) =
        unfold lists_in in (ap (λ (ls : List RateList). first_list_in h ∷ ls) (split_at later m no_list (rw later-length b))) in
        ap (λ (ls : List RateList). in_force ls day) parts
        ∙ in_force-last day (first_list_in h ∷ take m later) (get_or later m no_list) (drop (suc m) later) (rw x (le-leb _ _ (before m (omega arith))))
        (λ k l. rw e at (not-begun k (rw e l)))
        ∙ x ∙ sym (later-list m b)

    on-day : OnDay h day n
    on-day = record { within = within; list = found n refl }

-- ---- in a header whose lists stand, a pass in their order finds it

module _ (h : List ℤ) (s : ListsStand h) where
  lists_length : length (lists_in h) ≡ suc (lists_used h)
  unfolding lists_in
  lists_length = ap suc (later-length h)

  used-begins : (k : ℕ) → k < lists_used h → 1 ≤ (later_list_at h k).first_day
  unfolding list_in_range
  used-begins k l =
      let size : suc k < length (lists_in h) = omega (arith, lists_length) in
      let r = list-in-range (lists_in h) s.fit (suc k) size in
      let x : get_or (lists_in h) (suc k) no_list ≡ later_list_at h k = later-list h k l in
      let f : list_in_range (later_list_at h k) ≡ true = rw x at r in
      leb-true 1 (later_list_at h k).first_day (and_left _ _ (and_left ((later_list_at h k).first_day from 1 to final_day) (rates_fit (later_list_at h k).rates) f))

  module _ (day i : ℕ) (few : i ≤ later_lists) (passed : (k : ℕ) → k < i → (0 < (later_list_at h k).first_day) × ((later_list_at h k).first_day ≤ day)) where
    -- an unused list has no first day, so only used ones are passed
    passed-used : i ≤ lists_used h
    passed-used = go (leb i (lists_used h)) refl
      where
        go : (v : Bool) → leb i (lists_used h) ≡ v → i ≤ lists_used h
        go true e = leb-true i (lists_used h) e
        go false e =
            let l : lists_used h < i = omega (arith, leb-false i (lists_used h) e) in
            absurd (omega (arith, (passed (lists_used h) l).0, s.rest (lists_used h) (omega arith) (omega arith)))

    -- the pass ends at an unused list, or after the last
    pub on-last : (i < later_lists → (later_list_at h i).first_day ≡ 0) → OnDay h day i
    on-last z =
        on-day h day i passed-used (λ k l. (passed k l).1) (λ k l u.
        absurd (omega (arith, z (omega (arith, used-few h)), used-begins i (omega arith))))

    -- or at a list that has not begun: those after it begin later
    on-next : i < later_lists → day < (later_list_at h i).first_day → OnDay h day i
    on-next w b = on-day h day i passed-used (λ k l. (passed k l).1) after
      where
        used : i < lists_used h
        used = go (leb (suc i) (lists_used h)) refl
          where
            go : (v : Bool) → leb (suc i) (lists_used h) ≡ v → i < lists_used h
            go true e = leb-true (suc i) (lists_used h) e
            go false e = let l : lists_used h ≤ i = omega (arith, leb-false (suc i) (lists_used h) e) in absurd (omega (arith, s.rest i l w))

        after : (k : ℕ) → i ≤ k → k < lists_used h → day < (later_list_at h k).first_day
        after k l u = go (leb k i) refl
          where
            go : (v : Bool) → leb k i ≡ v → day < (later_list_at h k).first_day
            go true e = let q : k ≡ i = omega (arith, leb-true k i e) in rw q b
            go false e =
                let n : ℕ = k - i - 1 in
                let q : suc i + suc n ≡ suc k = omega (arith, leb-false k i e) in
                let size : suc i + suc n < length (lists_in h) = omega (arith, lists_length) in
                let r = rw (q, later-list h k u, later-list h i used) at (lists-rise (lists_in h) s.fit (suc i) n size) in
                omega arith

    -- what the test of a list tells
    on-stop : i < later_lists → unbegun h day i ≡ true → OnDay h day i
    on-stop w = go ((later_list_at h i).first_day is 0) refl
      where
        go : (v : Bool) → (later_list_at h i).first_day is 0 ≡ v → v || ltb day (later_list_at h i).first_day ≡ true → OnDay h day i
        go true e q = on-last (λ l. eqb-true _ 0 e)
        go false e q = on-next w (ltb-true day _ q)

  -- the first list that is unused or has not begun decides, or the end of the lists
  module _ (day : ℕ) where
    begun-by : (k : ℕ) → unbegun h day k ≡ false → (0 < (later_list_at h k).first_day) × ((later_list_at h k).first_day ≤ day)
    begun-by k q =
        let b = (later_list_at h k).first_day in
        let a : b ≢ 0 = eqb-false b 0 (or_left (b is 0) (ltb day b) q) in
        (omega arith, ltb-false day b (or_right (b is 0) (ltb day b) q))

    number : (k : ℕ) → k < later_lists → get_or (range_with_len 0 later_lists) k 0 ≡ k
    number k l = get_or-range_with_len 0 later_lists k 0 l ∙ omega arith

    abbrev range : List ℕ
    range = range_with_len 0 later_lists

    pub on-first : (r : Option ℕ)
        → MatchOption r (AllWithin (λ k. unbegun h day k ≡ false) range 0 (length range))
        (λ i. (i < length range) × HoldsAt (λ k. unbegun h day k ≡ true) range i × AllWithin (λ k. unbegun h day k ≡ false) range 0 i)
        → OnDay h day (unwrap_or r later_lists)
    on-first None f =
        on-last day later_lists (omega arith) (λ k l. begun-by k (rw (number k l) at (f k 0 (omega arith) l))) (λ w. absurd (omega arith))
    on-first (Some i) f =
        let l : i < later_lists = f.0 in
        on-stop day i (omega arith) (λ k q. begun-by k (rw (number k (omega arith)) at (f.2 k 0 (omega arith) q))) l
        (rw (number i l) at (f.1 0))

-- ---- a sound header's lists stand

pub sound-lists : (t : Tables) → sound_tables t ≡ true → ListsStand t.header
sound-lists t s = record { wide = header-length t s; fit = unfold book_of in (sound-book t s).near.lists; rest = rest }
  where
    rest : (k : ℕ) → lists_used t.header ≤ k → k < later_lists → (later_list_at t.header k).first_day ≡ 0
    rest k l w = unfold list_from word in
        (let p : ℕ = header_lists + lists_used t.header * list_width in
        let j : ℕ = k * list_width - lists_used t.header * list_width in
        let e : header_lists + k * list_width + 0 ≡ p + j = omega arith in
        let z : get_or t.header (p + j) (pos 0) ≡ pos 0 =
        sym (get_or-drop p t.header j (pos 0)) ∙ rw (unused-zero t s) (zeros-at ((later_lists - lists_used t.header) * list_width) j) in
        rw e (ap nat_of z ∙ (unfold nat_of in refl)))
