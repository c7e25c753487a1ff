-- The header's words: its rate lists written and read back, read and written again.
use mathlib.Core.Path.{◌≡◌, refl, sym, ap, ◌∙◌}
use mathlib.Core.Bool.{Bool, true, false, cond}
use Prim.Native.Nat.{ℕ, zero, suc, ◌+◌, ◌*◌, ◌-◌, ◌≤◌, ◌<◌}
use native.Mathlib.Omega.{arith}
use mathlib.Core.List.{List, [], ◌∷◌, ◌++◌, append_assoc}
use lib.ListN.{length, get_or, drop, replicate, length-append, length-replicate, length-drop, get_or-eq_default, get_or-replicate, take-append-drop, replicate-append-replicate}
use lib.Seq.{get_or-append-add, get_or-drop, ext_get_or, drop-drop, take_at, drop_at, drop-append-add, sets, sets-eq}
use lib.IntN.{ℤ, pos}
use lib.Dec.{ltb}
use borrow.Author.Tests.{lt-ltb}
use native.Mathlib.Decide.{dec_lt}
use native.Mathlib.Nat.{add_assoc}
use Rattle.lists.specs.Lists.{sum_by, count, tabulate}
use Rattle.lists.proofs.ListLaws.{length-tabulate, tabulate-at, tabulate-same, tabulate-get_d}
use Rattle.lists.proofs.SumLaws.{sum_by-snoc}
use Rattle.records.specs.Layout.{header_lists, later_lists, list_width}
use Rattle.records.specs.Encoding.{nat_of, word, write_all}
use Rattle.records.proofs.EncodingLaws.{Codec, length-write_all, read-write_all-at, write_all-read, write_all-snoc, plain}
use Rattle.rules.specs.RateLists.{RateList, no_list}
use Rattle.rules.specs.Tables.{rates_from, list_from, later_list_at, lists_used, rates_words, list_words, later_lists_words}
use Rattle.rules.proofs.StorableLaws.{StorableList}

-- ---- a list's words

pub list-codec : Codec list_width list_from list_words StorableList
unfolding list_from list_words rates_from rates_words word nat_of tabulate
list-codec = record {
  width = λ x. refl;
  read-words = λ p s x. simp (add_assoc, get_or-append-add);
  words-read = λ t a h s.
      rw (
        ← tabulate-get_d t a list_width (pos 0) h,
        plain t (a + 0) (omega (arith, s.day)),
        plain t (a + 1 + 0) (omega (arith, s.rates.tag1)),
        plain t (a + 1 + 1) (omega (arith, s.rates.plate1)),
        plain t (a + 1 + 2) (omega (arith, s.rates.tag2)),
        plain t (a + 1 + 3) (omega (arith, s.rates.plate2)),
        plain t (a + 1 + 4) (omega (arith, s.rates.tag3)),
        plain t (a + 1 + 5) (omega (arith, s.rates.plate3)),
        next a 0,
        next a 1,
        next a 2,
        next a 3,
        next a 4,
        next a 5,
      );
}
  where
    next : (a j : ℕ) → a + 1 + j ≡ a + (1 + j)
    next a j = omega arith

-- ---- the first n pass a test and no other does: so many pass

count-all : {A : Type 0} (t : A → Bool) (g : ℕ → A) (n : ℕ) → ((k : ℕ) → k < n → t (g k) ≡ true) → count t (tabulate g n) ≡ n
unfolding count tabulate sum_by
count-all t g zero f = refl
count-all t g (suc n) f =
    sum_by-snoc (λ x. cond (t x) 1 0) (tabulate g n) (g n) ∙ rw (f n (omega arith)) (omega (arith, count-all t g n (λ k q. f k (omega arith))))

count-first : {A : Type 0} (t : A → Bool) (g : ℕ → A) (n m : ℕ) → ((k : ℕ) → k < n → t (g k) ≡ true) → ((k : ℕ) → n ≤ k → t (g k) ≡ false) → count t (tabulate g (m + n)) ≡ n
unfolding count tabulate
count-first t g n zero f h = let z : 0 + n ≡ n = omega arith in rw z (count-all t g n f)
count-first t g n (suc m) f h =
    let z : suc m + n ≡ suc (m + n) = omega arith in
    rw z
    (sum_by-snoc (λ x. cond (t x) 1 0) (tabulate g (m + n)) (g (m + n)) ∙ rw (h (m + n) (omega arith)) (omega (arith, count-first t g n m f h)))

-- ---- written and read back

pub zeros-at : (m k : ℕ) → get_or (replicate m (pos 0)) k (pos 0) ≡ pos 0
zeros-at m k =
    elim (dec_lt k m) [
      | yes h ↦ get_or-replicate m k (pos 0) (pos 0) h
      | no h ↦ get_or-eq_default (replicate m (pos 0)) (pos 0) (rw (length-replicate m (pos 0)) (omega arith))
    ]

module _ (p : List ℤ) (wide : length p ≡ header_lists) (ls : List RateList) (few : length ls ≤ later_lists)
    (days : (k : ℕ) → k < length ls → 0 < (get_or ls k no_list).first_day) where
  abbrev header : List ℤ
  header = p ++ later_lists_words ls

  later-read : (i : ℕ) → i < length ls → later_list_at header i ≡ get_or ls i no_list
  unfolding later_lists_words
  later-read i h = rw (← wide) (read-write_all-at list_width list_from list_words StorableList list-codec ls p (replicate ((later_lists - length ls) * list_width) (pos 0)) i no_list h)

  later-none : (i : ℕ) → length ls ≤ i → (later_list_at header i).first_day ≡ 0
  unfolding later_lists_words list_from word nat_of
  later-none i h =
      let w : List ℤ = write_all list_words ls in
      let z : List ℤ = replicate ((later_lists - length ls) * list_width) (pos 0) in
      let n : length w ≡ length ls * list_width = length-write_all list_width list_from list_words StorableList list-codec ls in
      let k : ℕ = i * list_width - length ls * list_width in
      let e : header_lists + i * list_width + 0 ≡ length p + (length w + k) = omega (arith, n) in
      ap nat_of (ap (λ (j : ℕ). get_or (p ++ (w ++ z)) j (pos 0)) e ∙ get_or-append-add p (w ++ z) (length w + k) (pos 0) ∙ get_or-append-add w z k (pos 0) ∙ zeros-at ((later_lists - length ls) * list_width) k)

  pub used-written : lists_used header ≡ length ls
  unfolding lists_used
  used-written =
      let e : later_lists - length ls + length ls ≡ later_lists = omega arith in
      rw e at
      (count-first (λ (l : RateList). ltb 0 l.first_day) (later_list_at header) (length ls) (later_lists - length ls)
      (λ k h. rw (later-read k h) (lt-ltb 0 _ (days k h)))
      (λ k h. rw (later-none k h) refl))

  pub lists-written : tabulate (later_list_at header) (lists_used header) ≡ ls
  lists-written =
      rw used-written
      (ext_get_or no_list _ ls (length-tabulate (later_list_at header) (length ls)) (λ i h.
      let b : i < length ls = rw (length-tabulate (later_list_at header) (length ls)) at h in
      tabulate-at (later_list_at header) (length ls) i no_list b ∙ later-read i b))

pub length-later_lists_words : (ls : List RateList) → length ls ≤ later_lists → length (later_lists_words ls) ≡ later_lists * list_width
unfolding later_lists_words
length-later_lists_words ls few =
    length-append (write_all list_words ls) (replicate ((later_lists - length ls) * list_width) (pos 0))
    ∙ omega (arith, length-write_all list_width list_from list_words StorableList list-codec ls, length-replicate ((later_lists - length ls) * list_width) (pos 0))

-- ---- one list more: its words take the place of the first unused one's

drop-zeros : (k n : ℕ) → drop k (replicate (k + n) (pos 0)) ≡ replicate n (pos 0)
drop-zeros k n = ap (drop k) (sym (replicate-append-replicate k n (pos 0))) ∙ drop_at (replicate k (pos 0)) (replicate n (pos 0)) k (length-replicate k (pos 0))

-- words stored after a part of a list
sets-after : (p z vs : List ℤ) (n : ℕ) → length p ≡ n → length vs ≤ length z → sets (p ++ z) n vs ≡ p ++ (vs ++ drop (length vs) z)
sets-after p z vs n e l =
    let h : n + length vs ≤ length (p ++ z) = omega (arith, length-append p z) in
    sets-eq vs (p ++ z) n h ∙ rw (take_at p z n e, ← e, drop-append-add p z (length vs)) (append_assoc p vs (drop (length vs) z))

pub list_put : (p : List ℤ) (ls : List RateList) (l : RateList) → length p ≡ header_lists → length ls < later_lists
    → sets (p ++ later_lists_words ls) (header_lists + length ls * list_width) (list_words l) ≡ p ++ later_lists_words (ls ++ (l ∷ []))
list_put p ls l e few = unfold later_lists_words in
    (rw (length-append ls (l ∷ []), write_all-snoc list_width list_from list_words StorableList list-codec ls l, ← append_assoc p w z, more)
    (sets-after (p ++ w) z (list_words l) (header_lists + length ls * list_width) (length-append p w ∙ omega (arith, n)) (omega (arith, length-replicate ((later_lists - length ls) * list_width) (pos 0), width))
    ∙ rw (width, rest) (append_assoc p w (list_words l ++ replicate ((later_lists - suc (length ls)) * list_width) (pos 0)) ∙ ap (λ (r : List ℤ). p ++ r) (sym (append_assoc w (list_words l) _)))))
  where
    w : List ℤ
    w = write_all list_words ls

    z : List ℤ
    z = replicate ((later_lists - length ls) * list_width) (pos 0)

    n : length (write_all list_words ls) ≡ length ls * list_width
    n = length-write_all list_width list_from list_words StorableList list-codec ls

    width : length (list_words l) ≡ list_width
    width = list-codec.width l

    more : later_lists - (length ls + 1) ≡ later_lists - suc (length ls)
    more = omega arith

    rest : drop list_width (replicate ((later_lists - length ls) * list_width) (pos 0)) ≡ replicate ((later_lists - suc (length ls)) * list_width) (pos 0)
    rest =
        let e : (later_lists - length ls) * list_width ≡ list_width + (later_lists - suc (length ls)) * list_width = omega arith in
        rw e (drop-zeros list_width ((later_lists - suc (length ls)) * list_width))

-- ---- read and written again

word-drop : (n : ℕ) (h : List ℤ) (k : ℕ) → word (drop n h) k ≡ word h (n + k)
unfolding word
word-drop n h k = ap nat_of (get_or-drop n h k (pos 0))

list-drop : (n : ℕ) (h : List ℤ) (k : ℕ) → list_from (drop n h) k ≡ list_from h (n + k)
unfolding list_from rates_from
list-drop n h k = let a : (j : ℕ) → word (drop n h) (k + j) ≡ word h (n + k + j) = λ j. word-drop n h (k + j) ∙ ap (word h) (omega arith) in
    let b : (j : ℕ) → word (drop n h) (k + 1 + j) ≡ word h (n + k + 1 + j) = λ j. word-drop n h (k + 1 + j) ∙ ap (word h) (omega arith) in
    rw (a 0, b 0, b 1, b 2, b 3, b 4, b 5)

module _ (h : List ℤ) (n : ℕ) (few : n ≤ later_lists) (wide : header_lists + later_lists * list_width ≡ length h)
    (small : (k : ℕ) → k < n → StorableList (later_list_at h k)) (zero_rest : drop (header_lists + n * list_width) h ≡ replicate ((later_lists - n) * list_width) (pos 0)) where
  pub lists-again : later_lists_words (tabulate (later_list_at h) n) ≡ drop header_lists h
  unfolding later_lists_words
  lists-again =
      let same : tabulate (later_list_at h) n ≡ tabulate (λ i. list_from (drop header_lists h) (i * list_width)) n =
      tabulate-same (later_list_at h) (λ i. list_from (drop header_lists h) (i * list_width)) n (λ k q. sym (list-drop header_lists h (k * list_width))) in
      let l : length (drop header_lists h) ≡ later_lists * list_width = length-drop header_lists h ∙ omega arith in
      rw (
        length-tabulate (later_list_at h) n,
        ← zero_rest,
        same,
        ← drop-drop (n * list_width) header_lists h,
        write_all-read list_width list_from list_words StorableList list-codec (drop header_lists h) n (omega arith) (λ i q. rw (list-drop header_lists h (i * list_width)) (small i q)),
      )
      (take-append-drop (n * list_width) (drop header_lists h))
