-- Laws of the numbered walks and of tabulated lists.
use mathlib.Core.Path.{◌≡◌, refl, sym, ap, ◌∙◌}
use mathlib.Core.Logic.{◌≢◌}
use mathlib.Core.Bool.{Bool, true, false, ◌&&◌, false≢true, and-true, and_assoc}
use Prim.Native.Nat.{ℕ, zero, suc, ◌+◌, ◌-◌, ◌≤◌, ◌<◌}
use native.Mathlib.Nat.{le_of_suc-le-suc, not-suc-le-zero}
use native.Mathlib.Omega.{arith}
use native.Mathlib.Decide.{ℕ_discrete}
use native.Mathlib.Numerals.{add-one}
use mathlib.Core.List.{List, [], ◌∷◌, ◌++◌, map, map-append}
use lib.ListN.{length, get_or, set, take, drop, replicate, length-append, get_or-append, get_or-eq_default, get_or-map}
use lib.Seq.{set-append_left, set_at, get_or_at, get_or-drop, take-suc}
use Rattle.lists.specs.Lists.{every_from, tabulate}
use Rattle.lists.proofs.TestLaws.{and_left, and_right, and_both}

-- ---- every

module _ {A : Type 0} where
  -- the test at each element; n is its number
  pub every-at : (t : ℕ → A → Bool) (i : ℕ) (xs : List A) (d : A) → every_from t i xs ≡ true → (k n : ℕ) → n ≡ i + k → k < length xs → t n (get_or xs k d) ≡ true
  unfolding every_from
  every-at t i [] d e k n q h = absurd (not-suc-le-zero h)
  every-at t i (x ∷ xs) d e zero n q h = let z : n ≡ i = omega arith in rw z (and_left (t i x) (every_from t (i + 1) xs) e)
  every-at t i (x ∷ xs) d e (suc k) n q h = every-at t (i + 1) xs d (and_right (t i x) (every_from t (i + 1) xs) e) k n (omega arith) (le_of_suc-le-suc h)

  pub every-all : (t : ℕ → A → Bool) (i : ℕ) (xs : List A) (d : A) → ((k n : ℕ) → n ≡ i + k → k < length xs → t n (get_or xs k d) ≡ true) → every_from t i xs ≡ true
  unfolding every_from
  every-all t i [] d f = refl
  every-all t i (x ∷ xs) d f =
      and_both (t i x) (every_from t (i + 1) xs) (f 0 i (omega arith) (omega arith))
      (every-all t (i + 1) xs d (λ k n q h. f (suc k) n (omega arith) (omega arith)))

  pub every-replicate : (t : ℕ → A → Bool) (i n : ℕ) (x : A) → ((k : ℕ) → t k x ≡ true) → every_from t i (replicate n x) ≡ true
  unfolding every_from
  every-replicate t i zero x f = refl
  every-replicate t i (suc n) x f = and_both (t i x) (every_from t (i + 1) (replicate n x)) (f i) (every-replicate t (i + 1) n x f)

  pub every-snoc : (t : ℕ → A → Bool) (i : ℕ) (xs : List A) (x : A) → every_from t i (xs ++ (x ∷ [])) ≡ every_from t i xs && t (i + length xs) x
  unfolding every_from
  every-snoc t i [] x = let z : i + 0 ≡ i = omega arith in rw (z, and-true)
  every-snoc t i (y ∷ xs) x = let z : i + 1 + length xs ≡ i + suc (length xs) = omega arith in rw (every-snoc t (i + 1) xs x, z, and_assoc)

  pub every-ext : (t u : ℕ → A → Bool) (i : ℕ) (xs : List A) → ((n : ℕ) (x : A) → t n x ≡ u n x) → every_from t i xs ≡ every_from u i xs
  unfolding every_from
  every-ext t u i [] e = refl
  every-ext t u i (x ∷ xs) e = rw (e i x, every-ext t u (i + 1) xs e)

  -- two tests at once
  pub every-and : (t u : ℕ → A → Bool) (i : ℕ) (xs : List A) → every_from (λ n x. t n x && u n x) i xs ≡ every_from t i xs && every_from u i xs
  unfolding every_from
  every-and t u i [] = refl
  every-and t u i (x ∷ xs) = rw (every-and t u (i + 1) xs) (swap (t i x) (u i x) (every_from t (i + 1) xs) (every_from u (i + 1) xs))
    where
      swap : (a b c d : Bool) → (a && b && (c && d)) ≡ (a && c && (b && d))
      swap true true c d = refl
      swap true false true d = refl
      swap true false false d = refl
      swap false b c d = refl

-- ---- tabulate

module _ {A : Type 0} where
  pub length-tabulate : (f : ℕ → A) (n : ℕ) → length (tabulate f n) ≡ n
  unfolding tabulate
  length-tabulate f zero = refl
  length-tabulate f (suc n) = length-append (tabulate f n) (f n ∷ []) ∙ omega (arith, length-tabulate f n)

  pub tabulate-more : (f : ℕ → A) (n : ℕ) → tabulate f (n + 1) ≡ tabulate f n ++ (f n ∷ [])
  unfolding tabulate
  tabulate-more f n = ap (tabulate f) (add-one n)

  pub tabulate-same : (f g : ℕ → A) (n : ℕ) → ((k : ℕ) → k < n → f k ≡ g k) → tabulate f n ≡ tabulate g n
  unfolding tabulate
  tabulate-same f g zero e = refl
  tabulate-same f g (suc n) e = rw (tabulate-same f g n (λ k h. e k (omega arith)), e n (omega arith))

  pub tabulate-at : (f : ℕ → A) (n k : ℕ) (d : A) → k < n → get_or (tabulate f n) k d ≡ f k
  unfolding tabulate
  tabulate-at f zero k d h = absurd (omega arith)
  tabulate-at f (suc n) k d h =
      elim (ℕ_discrete k n) [
        | yes e ↦ get_or_at (tabulate f n) (f n) [] d k (length-tabulate f n ∙ sym e) ∙ ap f (sym e)
        | no q ↦ get_or-append (tabulate f n) _ d k (rw length-tabulate (omega arith)) ∙ tabulate-at f n k d (omega arith)
      ]

  -- one value is another
  pub tabulate-set : (f g : ℕ → A) (n i : ℕ) (a : A) → i < n → f i ≡ a → ((k : ℕ) → k ≢ i → f k ≡ g k) → tabulate f n ≡ set (tabulate g n) i a
  unfolding tabulate
  tabulate-set f g zero i a h e o = refl
  tabulate-set f g (suc n) i a h e o =
      elim (ℕ_discrete i n) [
        | yes p ↦ rw (set_at (tabulate g n) (g n) [] a i (length-tabulate g n ∙ sym p), tabulate-same f g n (λ k q. o k (λ w. omega arith)), ← p, e)
        | no q ↦ rw (set-append_left (tabulate g n) (g n ∷ []) i a (rw length-tabulate (omega arith)), ← tabulate-set f g n i a (omega arith) e o, o n (λ w. q (sym w)))
      ]

  -- the values numbered from 1, with another where there is none
  pub numbered-at : (f : ℕ → A) (n k : ℕ) (d : A) → (k ≡ 0 → ⊥) → k ≤ n → get_or (d ∷ tabulate f n) k d ≡ f (k - 1)
  numbered-at f n zero d q h = absurd (q refl)
  numbered-at f n (suc k) d q h = let z : suc k - 1 ≡ k = omega arith in rw z (tabulate-at f n k d (omega arith))

  pub numbered-past : (f : ℕ → A) (n k : ℕ) (d : A) → n < k → get_or (d ∷ tabulate f n) k d ≡ d
  numbered-past f n k d h = get_or-eq_default (d ∷ tabulate f n) d {n = k} (rw length-tabulate h)

  -- a list is the table of its own elements
  pub tabulate-get_d : (xs : List A) (a n : ℕ) (d : A) → a + n ≤ length xs → tabulate (λ j. get_or xs (a + j) d) n ≡ take n (drop a xs)
  unfolding tabulate
  tabulate-get_d xs a zero d h = refl
  tabulate-get_d xs a (suc n) d h =
      rw (tabulate-get_d xs a n d (omega arith), ← get_or-drop a xs n d)
      (sym (take-suc (drop a xs) n d (omega (arith, lib.ListN.length-drop a xs))))

-- ---- every, of a tabulated list: its value k has number k + 1

pub every-ext-tabulate : {A : Type 0} (t u : ℕ → A → Bool) (g : ℕ → A) (n : ℕ) → ((k : ℕ) → k < n → t (k + 1) (g k) ≡ u (k + 1) (g k)) → every_from t 1 (tabulate g n) ≡ every_from u 1 (tabulate g n)
unfolding tabulate every_from
every-ext-tabulate t u g zero e = refl
every-ext-tabulate t u g (suc n) e =
    let l : 1 + length (tabulate g n) ≡ n + 1 = omega (arith, length-tabulate g n) in
    rw (every-snoc t 1 (tabulate g n) (g n), every-snoc u 1 (tabulate g n) (g n), l, every-ext-tabulate t u g n (λ k h. e k (omega arith)), e n (omega arith))

module _ {A : Type 0} (t : ℕ → A → Bool) (g : ℕ → A) where
  pub every-tabulate : (n : ℕ) → ((k : ℕ) → k < n → t (k + 1) (g k) ≡ true) → every_from t 1 (tabulate g n) ≡ true
  every-tabulate n f =
      every-all t 1 (tabulate g n) (g 0) (λ k m q h.
      let b : k < n = rw length-tabulate at h in
      let z : m ≡ k + 1 = omega arith in
      rw (z, tabulate-at g n k (g 0) b) (f k b))

  pub tabulate-every : (n : ℕ) → every_from t 1 (tabulate g n) ≡ true → (k : ℕ) → k < n → t (k + 1) (g k) ≡ true
  tabulate-every n e k h =
      rw (tabulate-at g n k (g 0) h) at (every-at t 1 (tabulate g n) (g 0) e k (k + 1) (omega arith) (rw length-tabulate h))

  pub every-fails : (n k : ℕ) → k < n → t (k + 1) (g k) ≡ false → every_from t 1 (tabulate g n) ≡ false
  every-fails n k h e = go (every_from t 1 (tabulate g n)) refl
    where
      go : (b : Bool) → every_from t 1 (tabulate g n) ≡ b → b ≡ false
      go true q = absurd (false≢true (sym e ∙ tabulate-every n q k h))
      go false q = refl

module _ {A B : Type 0} where
  pub tabulate-map : (h : A → B) (f : ℕ → B) (g : ℕ → A) (n : ℕ) → ((k : ℕ) → k < n → f k ≡ h (g k)) → tabulate f n ≡ map h (tabulate g n)
  unfolding tabulate
  tabulate-map h f g zero e = refl
  tabulate-map h f g (suc n) e = rw (tabulate-map h f g n (λ k q. e k (omega arith)), e n (omega arith), map-append)

-- ---- map

-- an element of a map that leaves what stands past the end
pub map_at : {A : Type 0} (f : A → A) (xs : List A) (k : ℕ) (d : A) → f d ≡ d → get_or (map f xs) k d ≡ f (get_or xs k d)
map_at {A} f xs k d e = ap (λ (z : A). get_or (map f xs) k z) (sym e) ∙ get_or-map f xs k d

-- ---- append

-- what holds of each element of two lists, its place in view
pub append_at : {A : Type 0} (P : ℕ → A → Type 0) (xs ys : List A) (d : A) → ((k : ℕ) → k < length xs → P k (get_or xs k d))
    → ((k : ℕ) → k < length ys → P (length xs + k) (get_or ys k d)) → (k : ℕ) → k < length (xs ++ ys) → P k (get_or (xs ++ ys) k d)
append_at P [] ys d f g k h = let z : 0 + k ≡ k = omega arith in rw z at (g k h)
append_at P (x ∷ xs) ys d f g zero h = f 0 (omega arith)
append_at P (x ∷ xs) ys d f g (suc k) h =
    append_at (λ j y. P (suc j) y) xs ys d (λ j l. f (suc j) (omega arith))
    (λ j l. let z : suc (length xs) + j ≡ suc (length xs + j) = omega arith in rw z at (g j l)) k (omega arith)

-- ---- zeros

pub zeros : (a h : ℕ) → ◌≡◌ {A = ℕ} (get_or (replicate a 0) h 0) 0
zeros zero h = refl
zeros (suc a) zero = refl
zeros (suc a) (suc h) = zeros a h
