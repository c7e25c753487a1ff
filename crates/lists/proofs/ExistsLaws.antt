-- Laws of "some element passes": what it says of each element, and where it says the same of two lists.
use mathlib.Core.Path.{◌≡◌, refl}
use mathlib.Core.Bool.{Bool, true, false, cond}
use Prim.Native.Nat.{ℕ, ◌≤◌, ◌<◌}
use native.Mathlib.Omega.{arith}
use mathlib.Core.List.{List}
use lib.ListN.{length, get_or}
use borrow.Author.Tests.{lt-ltb, le-ltb, ltb-false}
use Rattle.lists.specs.Lists.{count, exists}
use Rattle.lists.proofs.SumLaws.{sum_by-at-le, sum_by-zero-at}

module _ {A : Type 0} (t : A → Bool) where
  -- where none passes, none does
  pub exists-none : (xs : List A) (d : A) → exists t xs ≡ false → (k : ℕ) → k < length xs → t (get_or xs k d) ≡ false
  unfolding exists count
  exists-none xs d e k h = go (t (get_or xs k d)) (sum_by-at-le (λ x. cond (t x) 1 0) xs k d h)
    where
      go : (v : Bool) → cond v 1 0 ≤ count t xs → v ≡ false
      go true l = let z = ltb-false 0 (count t xs) e in absurd (omega arith)
      go false l = refl

  pub exists-some : (xs : List A) (d : A) (k : ℕ) → k < length xs → t (get_or xs k d) ≡ true → exists t xs ≡ true
  unfolding exists count
  exists-some xs d k h e = let l : 1 ≤ count t xs = rw e at (sum_by-at-le (λ x. cond (t x) 1 0) xs k d h) in lt-ltb 0 (count t xs) (omega arith)

  pub none-exists : (xs : List A) (d : A) → ((k : ℕ) → k < length xs → t (get_or xs k d) ≡ false) → exists t xs ≡ false
  unfolding exists count
  none-exists xs d f = le-ltb 0 (count t xs) (omega (arith, sum_by-zero-at (λ x. cond (t x) 1 0) d xs (λ k h. rw (f k h))))
