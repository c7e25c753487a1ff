-- Laws of sums, over any function; a count is a sum, so they are laws of counts too.
use mathlib.Core.Path.{◌≡◌, refl, sym}
use mathlib.Core.Logic.{◌≢◌}
use mathlib.Core.Bool.{Bool, true, false, cond}
use Prim.Native.Nat.{ℕ, zero, suc, ◌+◌, ◌*◌, ◌≤◌, ◌<◌}
use mathlib.Core.List.{List, [], ◌∷◌, ◌++◌, map}
use native.Mathlib.Nat.{add-mul, one-mul, le_of_suc-le-suc, not-suc-le-zero, suc-mul, zero-mul}
use native.Mathlib.Omega.{arith}
use native.Mathlib.Decide.{ℕ_discrete, dec_lt}
use lib.ListN.{length, take, get_or, set}
use Rattle.lists.specs.Lists.{sum_by, only, count, tabulate, gather_from}
use Rattle.lists.proofs.ListLaws.{tabulate-more}

module _ {A : Type 0} where
  pub sum_by-append : (f : A → ℕ) (xs ys : List A) → sum_by f (xs ++ ys) ≡ sum_by f xs + sum_by f ys
  unfolding sum_by
  sum_by-append f [] ys = omega arith
  sum_by-append f (x ∷ xs) ys = omega (arith, sum_by-append f xs ys)

  pub sum_by-snoc : (f : A → ℕ) (xs : List A) (x : A) → sum_by f (xs ++ (x ∷ [])) ≡ sum_by f xs + f x
  unfolding sum_by
  sum_by-snoc f xs x = omega (arith, sum_by-append f xs (x ∷ []))

  -- one value more of a tabulated list
  pub sum_by-more : (f : A → ℕ) (g : ℕ → A) (n : ℕ) → sum_by f (tabulate g (n + 1)) ≡ sum_by f (tabulate g n) + f (g n)
  sum_by-more f g n = rw (tabulate-more, sum_by-snoc)

  -- a store takes the old element's share away and puts the new one's in
  pub sum_by-set : (f : A → ℕ) (xs : List A) (i : ℕ) (v d : A) → i < length xs → sum_by f (set xs i v) + f (get_or xs i d) ≡ sum_by f xs + f v
  unfolding sum_by
  sum_by-set f [] i v d h = absurd (not-suc-le-zero h)
  sum_by-set f (x ∷ xs) zero v d h = omega arith
  sum_by-set f (x ∷ xs) (suc i) v d h = omega (arith, sum_by-set f xs i v d (le_of_suc-le-suc h))

  pub sum_by-set-same : (f : A → ℕ) (xs : List A) (i : ℕ) (v d : A) → f v ≡ f (get_or xs i d) → sum_by f (set xs i v) ≡ sum_by f xs
  unfolding sum_by
  sum_by-set-same f [] i v d e = refl
  sum_by-set-same f (x ∷ xs) zero v d e = omega arith
  sum_by-set-same f (x ∷ xs) (suc i) v d e = omega (arith, sum_by-set-same f xs i v d e)

  pub sum_by-take-suc : (f : A → ℕ) (xs : List A) (i : ℕ) (d : A) → i < length xs → sum_by f (take (suc i) xs) ≡ sum_by f (take i xs) + f (get_or xs i d)
  unfolding sum_by
  sum_by-take-suc f [] i d h = absurd (not-suc-le-zero h)
  sum_by-take-suc f (x ∷ xs) zero d h = omega arith
  sum_by-take-suc f (x ∷ xs) (suc i) d h = omega (arith, sum_by-take-suc f xs i d (le_of_suc-le-suc h))

  -- elements without a share add nothing
  pub sum_by-take-skip : (f : A → ℕ) (xs : List A) (d : A) (j n : ℕ) → j + n ≤ length xs → ((i : ℕ) → j ≤ i → i < j + n → f (get_or xs i d) ≡ 0)
      → sum_by f (take (j + n) xs) ≡ sum_by f (take j xs)
  sum_by-take-skip f xs d j zero h z = let e : j + 0 ≡ j = omega arith in rw e
  sum_by-take-skip f xs d j (suc n) h z =
      let e : j + suc n ≡ suc (j + n) = omega arith in
      rw e (omega (
        arith,
        sum_by-take-suc f xs (j + n) d (omega arith),
        z (j + n) (omega arith) (omega arith),
        sum_by-take-skip f xs d j n (omega arith) (λ i l q. z i l (omega arith)),
      ))

  -- no element's share passes the sum
  pub sum_by-at-le : (f : A → ℕ) (xs : List A) (i : ℕ) (d : A) → i < length xs → f (get_or xs i d) ≤ sum_by f xs
  unfolding sum_by
  sum_by-at-le f [] i d h = absurd (not-suc-le-zero h)
  sum_by-at-le f (x ∷ xs) zero d h = omega arith
  sum_by-at-le f (x ∷ xs) (suc i) d h = omega (arith, sum_by-at-le f xs i d (le_of_suc-le-suc h))

  pub sum_by-ext : (f g : A → ℕ) (xs : List A) → ((x : A) → f x ≡ g x) → sum_by f xs ≡ sum_by g xs
  unfolding sum_by
  sum_by-ext f g [] e = refl
  sum_by-ext f g (x ∷ xs) e = omega (arith, e x, sum_by-ext f g xs e)

  -- the same where f and g agree on the list's own elements only
  pub sum_by-ext-at : (f g : A → ℕ) (d : A) (xs : List A) → ((i : ℕ) → i < length xs → f (get_or xs i d) ≡ g (get_or xs i d)) → sum_by f xs ≡ sum_by g xs
  unfolding sum_by
  sum_by-ext-at f g d [] e = refl
  sum_by-ext-at f g d (x ∷ xs) e = omega (arith, e 0 (omega arith), sum_by-ext-at f g d xs (λ i h. e (suc i) (omega arith)))

  pub sum_by-add : (f g : A → ℕ) (xs : List A) → sum_by (λ x. f x + g x) xs ≡ sum_by f xs + sum_by g xs
  unfolding sum_by
  sum_by-add f g [] = refl
  sum_by-add f g (x ∷ xs) = omega (arith, sum_by-add f g xs)

  pub sum_by_le : (f g : A → ℕ) (xs : List A) → ((x : A) → f x ≤ g x) → sum_by f xs ≤ sum_by g xs
  unfolding sum_by
  sum_by_le f g [] e = omega arith
  sum_by_le f g (x ∷ xs) e = omega (arith, e x, sum_by_le f g xs e)

  pub sum_by-zero : (f : A → ℕ) (xs : List A) → ((x : A) → f x ≡ 0) → sum_by f xs ≡ 0
  unfolding sum_by
  sum_by-zero f [] e = refl
  sum_by-zero f (x ∷ xs) e = omega (arith, e x, sum_by-zero f xs e)

  pub sum_by-zero-at : (f : A → ℕ) (d : A) (xs : List A) → ((i : ℕ) → i < length xs → f (get_or xs i d) ≡ 0) → sum_by f xs ≡ 0
  unfolding sum_by
  sum_by-zero-at f d [] e = refl
  sum_by-zero-at f d (x ∷ xs) e = omega (arith, e 0 (omega arith), sum_by-zero-at f d xs (λ i h. e (suc i) (omega arith)))

  -- the sums of two lists, the second longer, whose elements have the same share, the longer part having none
  pub sum_by-longer : (f g : A → ℕ) (d : A) (xs ys : List A) → length xs ≤ length ys
      → ((i : ℕ) → i < length xs → f (get_or xs i d) ≡ g (get_or ys i d)) → ((i : ℕ) → length xs ≤ i → i < length ys → g (get_or ys i d) ≡ 0)
      → sum_by f xs ≡ sum_by g ys
  unfolding sum_by
  sum_by-longer f g d [] [] l e z = refl
  sum_by-longer f g d [] (y ∷ ys) l e z =
      omega (arith, z 0 (omega arith) (omega arith), sum_by-longer f g d [] ys (omega arith) (λ i h. absurd (omega arith)) (λ i h q. z (suc i) (omega arith) (omega arith)))
  sum_by-longer f g d (x ∷ xs) [] l e z = absurd (omega arith)
  sum_by-longer f g d (x ∷ xs) (y ∷ ys) l e z =
      omega (arith, e 0 (omega arith), sum_by-longer f g d xs ys (omega arith) (λ i h. e (suc i) (omega arith)) (λ i h q. z (suc i) (omega arith) (omega arith)))

  -- a sum is above 0 where another is: each element's share is
  pub sum_by-some : (f g : A → ℕ) (d : A) (xs : List A) → ((k : ℕ) → k < length xs → 0 < f (get_or xs k d) → 0 < g (get_or xs k d)) → 0 < sum_by f xs → 0 < sum_by g xs
  unfolding sum_by
  sum_by-some f g d [] e h = h
  sum_by-some f g d (x ∷ xs) e h = go (dec_lt 0 (f x)) (λ q. sum_by-some f g d xs (λ k l. e (suc k) (omega arith)) q)
    where
      go : Dec (0 < f x) → (0 < sum_by f xs → 0 < sum_by g xs) → 0 < g x + sum_by g xs
      go (yes q) i = omega (arith, e 0 (omega arith) q)
      go (no q) i = let r : 0 < sum_by g xs = i (omega arith) in omega arith

-- what an element adds is at most its own
pub only-le : {A : Type 0} (t : A → Bool) (f : A → ℕ) (x : A) → only t f x ≤ f x
unfolding only
only-le t f x = go (t x)
  where
    go : (b : Bool) → cond b (f x) 0 ≤ f x
    go true = omega arith
    go false = omega arith

-- a sum over the elements that pass, each of at most so much
pub sum_by-only-le : {A : Type 0} (t : A → Bool) (f : A → ℕ) (most : ℕ) (d : A) (xs : List A)
    → ((i : ℕ) → i < length xs → t (get_or xs i d) ≡ true → f (get_or xs i d) ≤ most) → sum_by (only t f) xs ≤ count t xs * most
unfolding sum_by only count
sum_by-only-le t f most d [] h = omega arith
sum_by-only-le t f most d (x ∷ xs) h = go (t x) (h 0 (omega arith)) (sum_by-only-le t f most d xs (λ i l. h (suc i) (omega arith)))
  where
    go : (b : Bool) → (b ≡ true → f x ≤ most) → sum_by (only t f) xs ≤ count t xs * most → cond b (f x) 0 + sum_by (only t f) xs ≤ (cond b 1 0 + count t xs) * most
    go true g ih = omega (arith, g refl, add-mul 1 (count t xs) most, one-mul most)
    go false g ih = omega arith

-- no more elements pass than there are
pub count-le : {A : Type 0} (t : A → Bool) (xs : List A) → count t xs ≤ length xs
unfolding count sum_by
count-le t [] = omega arith
count-le t (x ∷ xs) = go (t x) (count-le t xs)
  where
    go : (b : Bool) → count t xs ≤ length xs → cond b 1 0 + count t xs ≤ suc (length xs)
    go true h = omega arith
    go false h = omega arith

-- a sum of small values is small
pub sum_by-small : {A : Type 0} (f : A → ℕ) (g : ℕ → A) (b n : ℕ) → ((k : ℕ) → k < n → f (g k) ≤ b) → sum_by f (tabulate g n) ≤ n * b
unfolding tabulate sum_by
sum_by-small f g b zero h = omega (arith, zero-mul b)
sum_by-small f g b (suc n) h =
    omega (arith, sum_by-small f g b n (λ k q. h k (omega arith)), h n (omega arith), sum_by-snoc f (tabulate g n) (g n), suc-mul n b)

-- ---- counts of a tabulated list

module _ {A : Type 0} (t : A → Bool) (g : ℕ → A) where
  count-more : (n : ℕ) → count t (tabulate g (suc n)) ≡ count t (tabulate g n) + cond (t (g n)) 1 0
  unfolding count tabulate
  count-more n = sum_by-snoc (λ x. cond (t x) 1 0) (tabulate g n) (g n)

  count-hit : (n : ℕ) → t (g n) ≡ true → count t (tabulate g (suc n)) ≡ count t (tabulate g n) + 1
  count-hit n e = rw e at (count-more n)

  count-miss : (n : ℕ) → t (g n) ≡ false → count t (tabulate g (suc n)) ≡ count t (tabulate g n)
  count-miss n e = let q : count t (tabulate g (suc n)) ≡ count t (tabulate g n) + 0 = rw e at (count-more n) in omega arith

  pub count_none : (n : ℕ) → ((k : ℕ) → k < n → t (g k) ≡ false) → count t (tabulate g n) ≡ 0
  unfolding count tabulate sum_by
  count_none zero f = refl
  count_none (suc n) f = omega (arith, count-miss n (f n (omega arith)), count_none n (λ k h. f k (omega arith)))

  -- just one value passes
  pub count-single : (n j : ℕ) → j < n → t (g j) ≡ true → ((k : ℕ) → k < n → k ≢ j → t (g k) ≡ false) → count t (tabulate g n) ≡ 1
  count-single zero j h e f = absurd (omega arith)
  count-single (suc n) j h e f =
      elim (ℕ_discrete j n) [
        | yes p ↦ let q : t (g n) ≡ true = rw p at e in omega (arith, count-hit n q, count_none n (λ k b. f k (omega arith) (λ w. omega arith)))
        | no q ↦ omega (arith, count-miss n (f n (omega arith) (λ w. q (sym w))), count-single n j (omega arith) e (λ k b. f k (omega arith)))
      ]

  pub count-some : (n j : ℕ) → j < n → t (g j) ≡ true → 1 ≤ count t (tabulate g n)
  count-some zero j h e = absurd (omega arith)
  count-some (suc n) j h e =
      elim (ℕ_discrete j n) [
        | yes p ↦ let q : t (g n) ≡ true = rw p at e in omega (arith, count-hit n q)
        | no q ↦ omega (arith, count-more n, count-some n j (omega arith) e)
      ]

  -- two values pass
  pub count-pair : (n j k : ℕ) → j < k → k < n → t (g j) ≡ true → t (g k) ≡ true → 2 ≤ count t (tabulate g n)
  count-pair zero j k h b d e = absurd (omega arith)
  count-pair (suc n) j k h b d e =
      elim (ℕ_discrete k n) [
        | yes p ↦ let q : t (g n) ≡ true = rw p at e in omega (arith, count-hit n q, count-some n j (omega arith) d)
        | no q ↦ omega (arith, count-more n, count-pair n j k h (omega arith) d e)
      ]

pub sum_by-map : {A B : Type 0} (f : B → ℕ) (g : A → B) (xs : List A) → sum_by f (map g xs) ≡ sum_by (λ x. f (g x)) xs
unfolding sum_by
sum_by-map f g [] = refl
sum_by-map f g (x ∷ xs) = omega (arith, sum_by-map f g xs)

module _ {A B : Type 0} (h : ℕ → A → List B) where
  -- sums of what each element adds
  pub sum_by-gather : (f g : B → ℕ) (d : A) (i : ℕ) (xs : List A) → ((k n : ℕ) → n ≡ i + k → k < length xs → sum_by f (h n (get_or xs k d)) ≡ sum_by g (h n (get_or xs k d)))
      → sum_by f (gather_from h i xs) ≡ sum_by g (gather_from h i xs)
  unfolding gather_from sum_by
  sum_by-gather f g d i [] e = refl
  sum_by-gather f g d i (x ∷ xs) e =
      omega (
        arith,
        sum_by-append f (h i x) (gather_from h (i + 1) xs),
        sum_by-append g (h i x) (gather_from h (i + 1) xs),
        e 0 i (omega arith) (omega arith),
        sum_by-gather f g d (i + 1) xs (λ k n q l. e (suc k) n (omega arith) (omega arith)),
      )

  pub sum_by-gather-none : (f : B → ℕ) (d : A) (i : ℕ) (xs : List A) → ((k n : ℕ) → n ≡ i + k → k < length xs → sum_by f (h n (get_or xs k d)) ≡ 0) → sum_by f (gather_from h i xs) ≡ 0
  sum_by-gather-none f d i xs e =
      omega (
        arith,
        sum_by-zero (λ (y : B). 0) (gather_from h i xs) (λ y. refl),
        sum_by-gather f (λ y. 0) d i xs (λ k n q l. omega (arith, e k n q l, sum_by-zero (λ (y : B). 0) (h n (get_or xs k d)) (λ y. refl))),
      )
