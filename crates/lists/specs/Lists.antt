-- Sums, counts and numbered walks over a list. Elements are numbered from 1, as the rows and accounts of a book are.
use Rattle.std.specs.Prelude.{ℕ, zero, suc, ◌+◌, Bool, true, false, cond, ◌&&◌, List, [], ◌∷◌, ◌++◌, ltb}

module _ {A : Type 0} where
  -- the sum of what f gives for each element
  unfoldable pub sum_by : (A → ℕ) → List A → ℕ
  sum_by f [] = 0
  sum_by f (x ∷ xs) = f x + sum_by f xs

  -- what f gives where the test holds, else 0
  unfoldable pub only : (A → Bool) → (A → ℕ) → A → ℕ
  only t f x = cond (t x) (f x) 0

  -- how many elements pass the test
  unfoldable pub count : (A → Bool) → List A → ℕ
  count t xs = sum_by (λ x. cond (t x) 1 0) xs

  -- some element passes the test
  unfoldable pub exists : (A → Bool) → List A → Bool
  exists t xs = ltb 0 (count t xs)

  -- the test holds of each element and its number, counted from i
  unfoldable pub every_from : (ℕ → A → Bool) → ℕ → List A → Bool
  every_from t i [] = true
  every_from t i (x ∷ xs) = t i x && every_from t (i + 1) xs

  abbrev pub every : (ℕ → A → Bool) → List A → Bool
  every t xs = every_from t 1 xs

  -- each element changed, its number in view
  unfoldable pub change_from : (ℕ → A → A) → ℕ → List A → List A
  change_from f i [] = []
  change_from f i (x ∷ xs) = f i x ∷ change_from f (i + 1) xs

  abbrev pub change : (ℕ → A → A) → List A → List A
  change f xs = change_from f 1 xs

  -- one element where the test holds, else none
  abbrev pub one : Bool → A → List A
  one true x = x ∷ []
  one false x = []

  -- the list f 0, f 1, .. of n values
  unfoldable pub tabulate : (ℕ → A) → ℕ → List A
  tabulate f zero = []
  tabulate f (suc n) = tabulate f n ++ (f n ∷ [])

-- the first of i, i + 1, .. of which the test holds, of k numbers, and the one after them where it holds of none
unfoldable pub first_from : (ℕ → Bool) → ℕ → ℕ → ℕ
first_from t i zero = i
first_from t i (suc k) = cond (t i) i (first_from t (i + 1) k)

-- the least number below n of which the test holds, n where it holds of none
abbrev pub least : (ℕ → Bool) → ℕ → ℕ
least t n = first_from t 0 n

-- what each element, its number in view, adds to a list
unfoldable pub gather_from : {A B : Type 0} → (ℕ → A → List B) → ℕ → List A → List B
gather_from f i [] = []
gather_from f i (x ∷ xs) = f i x ++ gather_from f (i + 1) xs

abbrev pub gather : {A B : Type 0} → (ℕ → A → List B) → List A → List B
gather f xs = gather_from f 1 xs
