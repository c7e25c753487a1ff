-- Laws of the least number of which a test holds.
use mathlib.Core.Path.{◌≡◌, refl, ◌∙◌}
use mathlib.Core.Bool.{Bool, true, false, cond}
use Prim.Native.Nat.{ℕ, zero, suc, ◌+◌, ◌≤◌, ◌<◌}
use native.Mathlib.Omega.{arith}
use native.Mathlib.Decide.{dec_lt}
use Rattle.lists.specs.Lists.{first_from}

module _ (t : ℕ → Bool) where
  -- where the test holds of none of k numbers from i on, the number after them
  pub first-none : (i k : ℕ) → ((j : ℕ) → i ≤ j → j < i + k → t j ≡ false) → first_from t i k ≡ i + k
  unfolding first_from
  first-none i zero f = omega arith
  first-none i (suc k) f = rw (f i (omega arith) (omega arith)) (first-none (i + 1) k (λ j l h. f j (omega arith) (omega arith)) ∙ omega arith)

  -- where it holds of a number, and of none before it, that number
  pub first-found : (i k d : ℕ) → d < k → ((j : ℕ) → i ≤ j → j < i + d → t j ≡ false) → t (i + d) ≡ true → first_from t i k ≡ i + d
  unfolding first_from
  first-found i zero d l f e = absurd (omega arith)
  first-found i (suc k) zero l f e = let z : i + 0 ≡ i = omega arith in rw (rw z at e, z)
  first-found i (suc k) (suc d) l f e =
      let z : i + 1 + d ≡ i + suc d = omega arith in
      rw (f i (omega arith) (omega arith)) (first-found (i + 1) k d (omega arith) (λ j a h. f j (omega arith) (omega arith)) (rw z e) ∙ z)

  -- it is none past the k numbers
  pub first-le : (i k : ℕ) → first_from t i k ≤ i + k
  unfolding first_from
  first-le i zero = omega arith
  first-le i (suc k) = go (t i) (first-le (i + 1) k)
    where
      go : (v : Bool) → first_from t (i + 1) k ≤ i + 1 + k → cond v i (first_from t (i + 1) k) ≤ i + suc k
      go true l = omega arith
      go false l = omega (arith, l)

  -- the test holds of none before it
  pub first-least : (i k j : ℕ) → i ≤ j → j < first_from t i k → t j ≡ false
  unfolding first_from
  first-least i zero j l h = absurd (omega arith)
  first-least i (suc k) j l h = go (t i) refl h (dec_lt i j) (first-least (i + 1) k j)
    where
      go : (v : Bool) → t i ≡ v → j < cond v i (first_from t (i + 1) k) → Dec (i < j)
          → (i + 1 ≤ j → j < first_from t (i + 1) k → t j ≡ false) → t j ≡ false
      go true e q d f = absurd (omega arith)
      go false e q (yes m) f = f (omega arith) q
      go false e q (no m) f = let z : j ≡ i = omega arith in rw z e

  -- and of it, where it is one of the k numbers
  pub first-holds : (i k : ℕ) → first_from t i k < i + k → t (first_from t i k) ≡ true
  unfolding first_from
  first-holds i zero h = absurd (omega arith)
  first-holds i (suc k) h = go (t i) refl h (first-holds (i + 1) k)
    where
      go : (v : Bool) → t i ≡ v → cond v i (first_from t (i + 1) k) < i + suc k
          → (first_from t (i + 1) k < i + 1 + k → t (first_from t (i + 1) k) ≡ true) → t (cond v i (first_from t (i + 1) k)) ≡ true
      go true e q f = e
      go false e q f = f (omega arith)
