-- Laws of the lists that numbered elements add, of elements changed by their number, and of a list changed and grown.
use mathlib.Core.Path.{◌≡◌, refl, sym, ap, ◌∙◌}
use mathlib.Core.Logic.{◌≢◌}
use Prim.Native.Nat.{ℕ, zero, suc, ◌+◌, ◌-◌, ◌≤◌, ◌<◌}
use native.Mathlib.Omega.{arith}
use native.Mathlib.Decide.{dec_lt}
use mathlib.Core.List.{List, [], ◌∷◌, ◌++◌, map, append_assoc, append-nil}
use lib.ListN.{length, get_or, length-append, length-map, get_or-append}
use lib.Seq.{get_or-append-add}
use Rattle.lists.specs.Lists.{sum_by, gather_from, change_from, tabulate}
use Rattle.lists.proofs.SumLaws.{sum_by-append, sum_by-map}
use Rattle.lists.proofs.ListLaws.{length-tabulate, tabulate-more, map_at}

-- ---- gather

module _ {A B : Type 0} (h : ℕ → A → List B) where
  -- a sum to which no element adds
  pub gather_none : (g : B → ℕ) (i : ℕ) (xs : List A) (d : A) → ((n k : ℕ) → n ≡ i + k → k < length xs → sum_by g (h n (get_or xs k d)) ≡ 0)
      → sum_by g (gather_from h i xs) ≡ 0
  unfolding gather_from sum_by
  gather_none g i [] d f = refl
  gather_none g i (x ∷ xs) d f =
      omega (
        arith,
        sum_by-append g (h i x) (gather_from h (i + 1) xs),
        f i 0 (omega arith) (omega arith),
        gather_none g (i + 1) xs d (λ n k e l. f n (suc k) (omega arith) (omega arith)),
      )

  -- a sum to which only element n adds
  pub gather-only : (g : B → ℕ) (n : ℕ) → ((m : ℕ) (x : A) → m ≢ n → sum_by g (h m x) ≡ 0) → (i : ℕ) (xs : List A) (d : A) (k : ℕ) → n ≡ i + k → k < length xs
      → sum_by g (gather_from h i xs) ≡ sum_by g (h n (get_or xs k d))
  unfolding gather_from
  gather-only g n z i [] d k e l = absurd (omega arith)
  gather-only g n z i (x ∷ xs) d zero e l =
      let q : n ≡ i = omega arith in
      rw q (omega (
        arith,
        sum_by-append g (h i x) (gather_from h (i + 1) xs),
        gather_none g (i + 1) xs d (λ m j e' l'. z m (get_or xs j d) (omega arith)),
      ))
  gather-only g n z i (x ∷ xs) d (suc k) e l =
      omega (arith, sum_by-append g (h i x) (gather_from h (i + 1) xs), z i x (omega arith), gather-only g n z (i + 1) xs d k (omega arith) (omega arith))

  -- what one element adds is not more than the sum
  pub gather-at-le : (g : B → ℕ) (i : ℕ) (xs : List A) (d : A) (k n : ℕ) → n ≡ i + k → k < length xs → sum_by g (h n (get_or xs k d)) ≤ sum_by g (gather_from h i xs)
  unfolding gather_from
  gather-at-le g i [] d k n e l = absurd (omega arith)
  gather-at-le g i (x ∷ xs) d zero n e l = let q : n ≡ i = omega arith in rw q (omega (arith, sum_by-append g (h i x) (gather_from h (i + 1) xs)))
  gather-at-le g i (x ∷ xs) d (suc k) n e l =
      omega (arith, sum_by-append g (h i x) (gather_from h (i + 1) xs), gather-at-le g (i + 1) xs d k n (omega arith) (omega arith))

  -- what holds of all that each element adds
  pub gather-each : (P : B → Type 0) (i : ℕ) (xs : List A) (d : A) (c : B)
      → ((n k : ℕ) → n ≡ i + k → k < length xs → (j : ℕ) → j < length (h n (get_or xs k d)) → P (get_or (h n (get_or xs k d)) j c))
      → (j : ℕ) → j < length (gather_from h i xs) → P (get_or (gather_from h i xs) j c)
  unfolding gather_from
  gather-each P i [] d c f j l = absurd (omega arith)
  gather-each P i (x ∷ xs) d c f j l = go (dec_lt j (length (h i x))) (gather-each P (i + 1) xs d c (λ n k e q. f n (suc k) (omega arith) (omega arith)))
    where
      go : Dec (j < length (h i x)) → ((j : ℕ) → j < length (gather_from h (i + 1) xs) → P (get_or (gather_from h (i + 1) xs) j c))
          → P (get_or (h i x ++ gather_from h (i + 1) xs) j c)
      go (yes q) ih = rw (get_or-append (h i x) (gather_from h (i + 1) xs) c j q) (f i 0 (omega arith) (omega arith) j q)
      go (no q) ih = past (j - length (h i x)) (omega arith)
        where
          past : (m : ℕ) → j ≡ length (h i x) + m → P (get_or (h i x ++ gather_from h (i + 1) xs) j c)
          past m e =
              rw (e, get_or-append-add (h i x) (gather_from h (i + 1) xs) m c) (ih m (omega (arith, rw (length-append (h i x) (gather_from h (i + 1) xs)) at l)))

-- ---- change

module _ {A : Type 0} (f : ℕ → A → A) where
  pub length-change : (i : ℕ) (xs : List A) → length (change_from f i xs) ≡ length xs
  unfolding change_from
  length-change i [] = refl
  length-change i (x ∷ xs) = ap suc (length-change (i + 1) xs)

  pub change-at : (i : ℕ) (xs : List A) (d : A) (k n : ℕ) → n ≡ i + k → k < length xs → get_or (change_from f i xs) k d ≡ f n (get_or xs k d)
  unfolding change_from
  change-at i [] d k n e l = absurd (omega arith)
  change-at i (x ∷ xs) d zero n e l = let z : n ≡ i = omega arith in rw z
  change-at i (x ∷ xs) d (suc k) n e l = change-at (i + 1) xs d k n (omega arith) (omega arith)

  pub change-snoc : (i : ℕ) (xs : List A) (x : A) → change_from f i (xs ++ (x ∷ [])) ≡ change_from f i xs ++ (f (i + length xs) x ∷ [])
  unfolding change_from
  change-snoc i [] x = let z : i + 0 ≡ i = omega arith in rw z
  change-snoc i (y ∷ xs) x =
      let z : i + 1 + length xs ≡ i + suc (length xs) = omega arith in
      rw (change-snoc (i + 1) xs x, z)

  -- of a tabulated list: its value n has number n + 1
  pub change-tabulate : (g : ℕ → A) (n : ℕ) → change_from f 1 (tabulate g (n + 1)) ≡ change_from f 1 (tabulate g n) ++ (f (n + 1) (g n) ∷ [])
  change-tabulate g n =
      let l : 1 + length (tabulate g n) ≡ n + 1 = omega (arith, length-tabulate g n) in
      rw (tabulate-more g n, change-snoc 1 (tabulate g n) (g n), l)

pub change-same : {A : Type 0} (f g : ℕ → A → A) (i : ℕ) (xs : List A) (d : A) → ((n k : ℕ) → n ≡ i + k → k < length xs → f n (get_or xs k d) ≡ g n (get_or xs k d))
    → change_from f i xs ≡ change_from g i xs
unfolding change_from
change-same f g i [] d e = refl
change-same f g i (x ∷ xs) d e =
    rw (e i 0 (omega arith) (omega arith), change-same f g (i + 1) xs d (λ n k q r. e n (suc k) (omega arith) (omega arith)))

-- ---- elements changed by f, and more elements after them

module _ {A : Type 0} (f : A → A) (d : A) (rest : f d ≡ d) (xs more : List A) where
  pub grown-at : (i : ℕ) → i < length xs → get_or (map f xs ++ more) i d ≡ f (get_or xs i d)
  grown-at i l = get_or-append (map f xs) more d i (rw (length-map xs f) l) ∙ map_at f xs i d rest

  pub sum_by-grown : (g : A → ℕ) → sum_by g (map f xs ++ more) ≡ sum_by (λ x. g (f x)) xs + sum_by g more
  sum_by-grown g = sum_by-append g (map f xs) more ∙ ap (λ (n : ℕ). n + sum_by g more) (sum_by-map g f xs)

  pub grown-each : (k : ℕ) (P : A → Type 0) → k < length (map f xs ++ more) → (k < length xs → P (f (get_or xs k d)))
      → ((j : ℕ) → k ≡ length xs + j → j < length more → P (get_or more j d)) → P (get_or (map f xs ++ more) k d)
  grown-each k P h a b = go (dec_lt k (length xs))
    where
      go : Dec (k < length xs) → P (get_or (map f xs ++ more) k d)
      go (yes l) = rw (grown-at k l) (a l)
      go (no l) = past (k - length xs) (omega arith)
        where
          past : (j : ℕ) → k ≡ length xs + j → P (get_or (map f xs ++ more) k d)
          past j e =
              let lm : length (map f xs) ≡ length xs = length-map xs f in
              let e' : k ≡ length (map f xs) + j = omega arith in
              let l' : length (map f xs) + j < length (map f xs) + length more = omega (arith, rw (length-append (map f xs) more) at h) in
              rw (e', get_or-append-add (map f xs) more j d) (b j e (omega arith))

-- ---- one element more, and elements that add the same

module _ {A B : Type 0} (h : ℕ → A → List B) where
  pub gather-snoc : (i : ℕ) (xs : List A) (x : A) → gather_from h i (xs ++ (x ∷ [])) ≡ gather_from h i xs ++ h (i + length xs) x
  unfolding gather_from
  gather-snoc i [] x = let z : i + 0 ≡ i = omega arith in rw (append-nil (h i x), z)
  gather-snoc i (y ∷ xs) x =
      let z : i + 1 + length xs ≡ i + suc (length xs) = omega arith in
      rw (gather-snoc (i + 1) xs x, z) (sym (append_assoc (h i y) (gather_from h (i + 1) xs) (h (i + suc (length xs)) x)))

-- of a tabulated list: its value n has number n + 1
pub gather-tabulate : {A B : Type 0} (h : ℕ → A → List B) (g : ℕ → A) (n : ℕ) → gather_from h 1 (tabulate g (n + 1)) ≡ gather_from h 1 (tabulate g n) ++ h (n + 1) (g n)
gather-tabulate h g n =
    let l : 1 + length (tabulate g n) ≡ n + 1 = omega (arith, length-tabulate g n) in
    rw (tabulate-more g n, gather-snoc h 1 (tabulate g n) (g n), l)

pub length-gather-tabulate : {A B : Type 0} (h : ℕ → A → List B) (g : ℕ → A) (n : ℕ) → length (gather_from h 1 (tabulate g (n + 1))) ≡ length (gather_from h 1 (tabulate g n)) + length (h (n + 1) (g n))
length-gather-tabulate h g n = rw (gather-tabulate h g n, length-append (gather_from h 1 (tabulate g n)) (h (n + 1) (g n)))

-- the first elements add no more than all
pub length-gather-le : {A B : Type 0} (h : ℕ → A → List B) (g : ℕ → A) (i n : ℕ) → i ≤ n → length (gather_from h 1 (tabulate g i)) ≤ length (gather_from h 1 (tabulate g n))
length-gather-le h g i n l = let e : i + (n - i) ≡ n = omega arith in rw e at (go (n - i))
  where
    go : (m : ℕ) → length (gather_from h 1 (tabulate g i)) ≤ length (gather_from h 1 (tabulate g (i + m)))
    go zero = let z : i + 0 ≡ i = omega arith in rw z (omega arith)
    go (suc m) =
        let z : i + suc m ≡ i + m + 1 = omega arith in
        rw z (omega (arith, go m, length-gather-tabulate h g (i + m)))

pub gather-same : {A B : Type 0} (g h : ℕ → A → List B) (i : ℕ) (xs ys : List A) (d : A) → length xs ≡ length ys
    → ((n k : ℕ) → n ≡ i + k → k < length xs → g n (get_or xs k d) ≡ h n (get_or ys k d)) → gather_from g i xs ≡ gather_from h i ys
unfolding gather_from
gather-same g h i [] [] d l e = refl
gather-same g h i [] (y ∷ ys) d l e = absurd (omega arith)
gather-same g h i (x ∷ xs) [] d l e = absurd (omega arith)
gather-same g h i (x ∷ xs) (y ∷ ys) d l e =
    rw (e i 0 (omega arith) (omega arith), gather-same g h (i + 1) xs ys d (omega arith) (λ n k q r. e n (suc k) (omega arith) (omega arith)))

-- what is added has the same length where what each element adds has
pub length-gather-same : {A B C : Type 0} (g : ℕ → A → List B) (h : ℕ → A → List C) (i : ℕ) (xs : List A) (d : A)
    → ((n k : ℕ) → n ≡ i + k → k < length xs → length (g n (get_or xs k d)) ≡ length (h n (get_or xs k d))) → length (gather_from g i xs) ≡ length (gather_from h i xs)
unfolding gather_from
length-gather-same g h i [] d e = refl
length-gather-same g h i (x ∷ xs) d e =
    omega (
      arith,
      length-append (g i x) (gather_from g (i + 1) xs),
      length-append (h i x) (gather_from h (i + 1) xs),
      e i 0 (omega arith) (omega arith),
      length-gather-same g h (i + 1) xs d (λ n k q r. e n (suc k) (omega arith) (omega arith)),
    )
